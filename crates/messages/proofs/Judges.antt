-- Header and body of a message among the bytes read ahead, or behind them. Assumes nothing.
use Rattle.std.proofs.Common.{◌≡◌, ℕ, ◌+◌, ◌-◌, ◌<◌, ◌≤◌, Bool, true, false, cond, leb, List, length, take, drop, refl, ap, ◌∙◌, ap₂, arith, Err}
use Rattle.std.proofs.lemmas.List.{take-take}
use Rattle.std.proofs.lemmas.Bool.{leb-true}
use Rattle.std.proofs.lemmas.Bool.Decides.{nat_tests}
use Rattle.device.specs.Reads.{inside, part}
use Rattle.codec.specs.declared.message_header.MessageHeader.{MessageHeader}
use Rattle.messages.specs.Raw.{Raw, ahead, decided}
use Rattle.messages.specs.declared.log_read.NoMessage.TheVariants.{Short}
use Rattle.messages.proofs.Windows.{front_part, body_part}

-- a body beyond the bytes read ahead is there exactly if the view has it
pub inside_test : (first place hl n : ℕ) (bytes : List ℕ) → first ≤ place → place ≤ first + length bytes → 0 < n
    → inside first bytes (place + hl) n ≡ leb (hl + n) (first + length bytes - place)
inside_test first place hl n bytes a b c = grind (arith, nat_tests)

-- ---- header and body in the bytes read ahead
pub header_is : (v w : List ℕ) (hl : ℕ) → v ≡ take 128 w → hl ≤ 128 → take (hl - 0) v ≡ take hl w
header_is v w hl e h = let z : hl - 0 ≡ hl = omega arith in ap₂ take z e ∙ take-take hl 128 w h

pub body_is : (v w : List ℕ) (hl n : ℕ) → v ≡ take 128 w → hl + n ≤ 128 → take (hl + n - hl) (drop hl v) ≡ take n (drop hl w)
body_is v w hl n e h = let z : hl + n - hl ≡ n = omega arith in ap₂ (λ k l. take k (drop hl l)) z e ∙ front_part w hl n 128 h

when : {X : Type 0} (b : Bool) (x y z : X) → (b ≡ true → x ≡ y) → cond b x z ≡ cond b y z
when true x y z f = f refl
when false x y z f = refl

pub long_is : (h : MessageHeader) (number first place hl : ℕ) (bytes v : List ℕ) (r : Raw) → first ≤ place → place ≤ first + length bytes → 0 < h.len
    → v ≡ take 128 (ahead bytes (place - first)) → hl ≤ 128
    → r ≡ cond (inside first bytes (place + hl) h.len) (decided h number (take (hl - 0) v) (part first bytes (place + hl) h.len)) (Err Short)
    → r ≡ cond (leb (hl + h.len) (first + length bytes - place)) (decided h number (take hl (ahead bytes (place - first))) (take h.len (drop hl (ahead bytes (place - first))))) (Err Short)
long_is h number first place hl bytes v r a b c e l d =
    let w = ahead bytes (place - first) in
    let have = first + length bytes - place in
    let X : List ℕ → List ℕ → Raw = λ x y. decided h number x y in
    d ∙ ap (λ t. cond t (X (take (hl - 0) v) (part first bytes (place + hl) h.len)) (Err Short)) (inside_test first place hl h.len bytes a b c)
    ∙ when (leb (hl + h.len) have) _ _ (Err Short)
    (λ t. ap₂ X (header_is v w hl e l) (body_part first place hl h.len bytes a (leb-true (hl + h.len) have t)))
