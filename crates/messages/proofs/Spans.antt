-- A message that was read is not empty and ends inside its segment. Assumes nothing.
use Rattle.std.proofs.Common.{◌≡◌, ℕ, ◌+◌, ◌-◌, ◌*◌, ◌%◌, ◌<◌, ◌≤◌, cond, ◌&&◌, ◌||◌, eqb, leb, List, [], ◌∷◌, length, take, drop, Some, None, Option, arith, length-append, length-drop, length-take, Ok, Err}
use lib.ListN.{length-replicate}
use Rattle.std.proofs.lemmas.Bool.{cond_both, leb-true}
use Rattle.std.proofs.lemmas.Bool.Decides.{nat_tests}
use Rattle.codec.specs.Messages.{read_message_header}
use Rattle.codec.specs.Numbers.{little, field, second, third, number}
use Rattle.codec.specs.Serial.{next}
use Rattle.codec.specs.declared.message_header.MessageHeader.{MessageHeader}
use Rattle.device.specs.Reads.{begins}
use Rattle.messages.specs.Raw.{is_entry, ahead, known, decided, judged, raw_in, raw_at}
use Rattle.messages.specs.declared.log_read.Found.{Found}
use Rattle.messages.specs.declared.log_read.NoMessage.TheVariants.{Corrupted, Short}

-- ---- what is left behind a number or a field is no longer than before
abbrev Shorter : {A : Type 0} → ℕ → List ℕ → Option (A × List ℕ) → Type 0
Shorter k bs None = Unit {0}
Shorter k bs (Some q) = length q.1 + k ≤ length bs

field-shorter : (k : ℕ) (bs : List ℕ) → Shorter k bs (field k bs)
unfolding field
field-shorter k bs =
    cond_both {A = Option (ℕ × List ℕ)} (leb k (length bs)) (Some (little (take k bs), drop k bs)) None (λ o. Shorter k bs o) (λ t. omega (arith, length-drop k bs, leb-true k (length bs) t)) (λ t. tt)

second-shorter : (base : ℕ) (bs : List ℕ) → Shorter 1 bs (second base bs)
unfolding second
second-shorter base [] = tt
second-shorter base (b ∷ bs) = omega arith

third-shorter : (bs : List ℕ) → Shorter 0 bs (third bs)
third-shorter [] = tt
third-shorter (a ∷ []) = tt
third-shorter (a ∷ b ∷ bs) = omega arith

weaker : {A : Type 0} (k m : ℕ) (bs cs : List ℕ) (o : Option (A × List ℕ)) → length bs + m ≤ length cs + k → Shorter k bs o → Shorter m cs o
weaker k m bs cs None h s = tt
weaker k m bs cs (Some q) h s = omega arith

number-shorter : (bs : List ℕ) → Shorter 0 bs (number bs)
unfolding number
number-shorter [] = tt
number-shorter (f ∷ bs) =
    let big = field (f - 247) bs in
    let three = cond (eqb f 249) (third bs) big in
    let two = cond (leb f 248) (second (240 + 256 * (f - 241)) bs) three in
    cond_both (leb f 240) (Some (f, bs)) two (λ o. Shorter 0 (f ∷ bs) o) (λ t. omega arith)
    (λ t. cond_both (leb f 248) (second (240 + 256 * (f - 241)) bs) three (λ o. Shorter 0 (f ∷ bs) o) (λ u. weaker 1 0 bs (f ∷ bs) (second (240 + 256 * (f - 241)) bs) (omega arith) (second-shorter (240 + 256 * (f - 241)) bs))
    (λ u. cond_both (eqb f 249) (third bs) big (λ o. Shorter 0 (f ∷ bs) o) (λ v. weaker 0 0 bs (f ∷ bs) (third bs) (omega arith) (third-shorter bs))
    (λ v. weaker (f - 247) 0 bs (f ∷ bs) (field (f - 247) bs) (omega arith) (field-shorter (f - 247) bs))))

next-shorter : {A B : Type 0} (k m : ℕ) (bs : List ℕ) (o : Option (A × List ℕ)) (f : A → List ℕ → Option (B × List ℕ)) → Shorter k bs o
    → ((x : A) (rest : List ℕ) → Shorter m rest (f x rest)) → Shorter (k + m) bs (next o f)
next-shorter k m bs None f s h = tt
next-shorter k m bs (Some q) f s h = weaker m (k + m) q.1 bs (f q.0 q.1) (omega arith) (h q.0 q.1)

header-shorter : (bs : List ℕ) → Shorter 5 bs (read_message_header bs)
header-shorter bs =
    next-shorter 4 1 bs (field 4 bs) _ (field-shorter 4 bs) λ crc bs.
    next-shorter 1 0 bs (second 0 bs) _ (second-shorter 0 bs) λ kind bs.
    next-shorter 0 0 bs (number bs) _ (number-shorter bs) λ len bs.
    next-shorter 0 0 bs (number bs) _ (number-shorter bs) λ segment bs.
    next-shorter 0 0 bs (number bs) _ (number-shorter bs) λ page rest. omega arith

-- ---- a whole message
pub record Span (size p len : ℕ) : Type 0 where
  pub some : 0 < len
  pub within : p + len ≤ size

decided_len : (h : MessageHeader) (number : ℕ) (header body : List ℕ) (f : Found) → decided h number header body ≡ Ok f → f.len ≡ length header + h.len
unfolding decided
decided_len h number header body f =
    cond_both (eqb h.crc32 _ && eqb h.segment_number number) _ (Err Corrupted) (λ r. r ≡ Ok f → f.len ≡ length header + h.len)
    (λ t e. cc) (λ t e. absurd (let z : ◌≡◌ {A = ℕ} 0 1 = cc in omega arith))

judged_span : (size number p have : ℕ) (w : List ℕ) (h : MessageHeader) (hl : ℕ) (f : Found) → 0 < hl → hl ≤ length w → judged size number p have w h hl ≡ Ok f → Span size p f.len
unfolding judged
judged_span size number p have w h hl f a b =
    let d = decided h number (take hl w) (take h.len (drop hl w)) in
    let n = length-take hl w in
    cond_both (leb (p + (hl + h.len)) size && known h.kind) (cond (leb (hl + h.len) 128 || leb (hl + h.len) have) d (Err Short)) (Err Corrupted) (λ r. r ≡ Ok f → Span size p f.len)
    (λ t. let l : p + (hl + h.len) ≤ size = grind (arith, nat_tests) in
    cond_both (leb (hl + h.len) 128 || leb (hl + h.len) have) d (Err Short) (λ r. r ≡ Ok f → Span size p f.len)
    (λ u e. let k = decided_len h number (take hl w) (take h.len (drop hl w)) f e in record { some = omega arith; within = omega arith })
    (λ u e. absurd (let z : ◌≡◌ {A = ℕ} 0 1 = cc in omega arith)))
    (λ t e. absurd (let z : ◌≡◌ {A = ℕ} 0 1 = cc in omega arith))

in_span : (size number p have : ℕ) (w v : List ℕ) (o : Option (MessageHeader × List ℕ)) (f : Found) → 128 ≤ length w → length v ≡ 128 → Shorter 5 v o → raw_in size number p have w o ≡ Ok f → Span size p f.len
in_span size number p have w v None f a b s e = absurd (let z : ◌≡◌ {A = ℕ} 0 1 = cc in omega arith)
in_span size number p have w v (Some q) f a b s e = judged_span size number p have w q.0 (128 - length q.1) f (omega arith) (omega arith) e

pub raw_span : (size number first place : ℕ) (bytes : List ℕ) (f : Found) → raw_at size number first bytes place ≡ Ok f → Span size (place % size) f.len
unfolding raw_at ahead
raw_span size number first place bytes f =
    let w = ahead bytes (place - first) in
    let long : 128 ≤ length w = unfold ahead in simp (length-append, length-replicate) (omega arith) in
    let v : length (take 128 w) ≡ 128 = simp length-take (omega arith) in
    cond_both (is_entry size (place % size) && begins first bytes place)
    (raw_in size number (place % size) (first + length bytes - place) w (read_message_header (take 128 w))) (Err Short) (λ r. r ≡ Ok f → Span size (place % size) f.len)
    (λ t e. in_span size number (place % size) (first + length bytes - place) w (take 128 w) (read_message_header (take 128 w)) f long v (header-shorter (take 128 w)) e)
    (λ t e. absurd (let z : ◌≡◌ {A = ℕ} 0 1 = cc in omega arith))
