-- What is written is read back: for each type the proof of the law `back` of `Serialize`. These are proofs, and need not
-- be read: they stand here because an impl can cite nothing of its own crate's proofs/. Assumes nothing.
use Rattle.std.specs.Prelude.{◌≡◌, ℕ, zero, suc, ◌+◌, ◌-◌, ◌*◌, ◌/◌, ◌%◌, ◌^◌, ◌<◌, ◌≤◌, List, [], ◌∷◌, ◌++◌, length, Some, Option, bit_xor, nat_le, refl}
use Rattle.std.proofs.Common.{sym, ap, ap₂, ◌∙◌, subst, append_assoc, length-append, mul-suc, pow-add}
use Rattle.std.proofs.Math.Nat.{zero-add, add_assoc, mod-add-div, div-add-mod, div-lt_iff_lt-mul, add-sub_of_le, add-sub_cancel_left, sub-lt_left_of_lt-add, le-add_right, add-le-add, le-pred_of_lt, le_refl, le_of_lt, lt_of_le_of_lt, zero-lt-suc}
use Rattle.std.proofs.Math.Arith.{lt-one}
use Rattle.std.specs.Int.Bits.{xor_assoc, xor_self, xor_zero_r}
use Rattle.std.proofs.lemmas.Nat.{xor_lt}
use Rattle.std.proofs.lemmas.List.{take_at, drop_at}
use Rattle.std.proofs.lemmas.Bool.{cond-true, cond-false, cond_both, le-leb, lt-leb, leb-true, leb-false, ltb-true}
use Rattle.layout.specs.Kinds.{kind_number, kind_of}
use Rattle.layout.specs.declared.kind.MessageKind.{MessageKind}
use Rattle.layout.specs.declared.kind.MessageKind.TheVariants.{Corrupted, Canceled, Cap, BatchManifest, Free, Counter, InlineMeta, BlobMeta, InlineNode, BlobNode, InlineLink, BlobLink}
use Rattle.codec.specs.Fields.{eight, read_word}
use Rattle.codec.specs.Messages.{message_header, MessageFits, read_message_header}
use Rattle.codec.specs.Numbers.{little, octets, field, second, formed, number, width, shortest}
use Rattle.codec.specs.Segments.{masked, segment_header, SegmentFits, read_segment_header}
use Rattle.codec.specs.Serial.{next}
use Rattle.codec.specs.declared.message_header.MessageHeader.{MessageHeader}
use Rattle.codec.specs.declared.segment.SegmentHeader.{SegmentHeader}
use Rattle.codec.specs.declared.word.Word.{Word}

-- ---- fields
-- one byte more has eight bits more
pub bits-suc : (k : ℕ) → 2 ^ (8 * suc k) ≡ 2 ^ (8 * k) * 256
bits-suc k = ap (λ n. 2 ^ n) (mul-suc 8 k) ∙ pow-add 2 (8 * k) 8

pub length-octets : (k n : ℕ) → length (octets k n) ≡ k
unfolding octets
length-octets zero n = refl
length-octets (suc k) n = ap suc (length-octets k (n / 256))

pub little-octets : (k n : ℕ) → n < 2 ^ (8 * k) → little (octets k n) ≡ n
unfolding octets little
little-octets zero n h = sym (lt-one h)
little-octets (suc k) n h =
    let less : n / 256 < 2 ^ (8 * k) = (div-lt_iff_lt-mul (zero-lt-suc 255)).1 (subst (λ m. n < m) (bits-suc k) h) in
    ap (λ m. n % 256 + 256 * m) (little-octets k (n / 256) less) ∙ mod-add-div n 256

pub field_back : (k n : ℕ) (rest : List ℕ) → n < 2 ^ (8 * k) → field k (octets k n ++ rest) ≡ Some (n, rest)
unfolding field
field_back k n rest h =
    let len = length-octets k n in
    let enough : k ≤ length (octets k n ++ rest) =
    subst (λ m. k ≤ m) (sym (length-append (octets k n) rest)) (subst (λ m. k ≤ m + length rest) (sym len) (le-add_right k (length rest)))
    in
    cond-true _ _ _ (le-leb k (length (octets k n ++ rest)) enough)
    ∙ ap₂ (λ m r. Some (m, r)) (ap little (take_at (octets k n) rest k len) ∙ little-octets k n h) (drop_at (octets k n) rest k len)

-- ---- numbers
pub second_back : (b : ℕ) (bs : List ℕ) → second 0 (b ∷ bs) ≡ Some (b, bs)
unfolding second
second_back b bs = ap (λ n. Some (n, bs)) (zero-add b)

-- a base, then what a number is above it in two bytes
over_back : (base n : ℕ) → base ≤ n → base + 256 * ((n - base) / 256) + (n - base) % 256 ≡ n
over_back base n h = add_assoc base _ _ ∙ ap (λ m. base + m) (div-add-mod (n - base) 256) ∙ add-sub_of_le h

two_bytes_back : (n : ℕ) (rest : List ℕ) → 240 < n → n ≤ 2287
    → formed (241 + (n - 240) / 256) ((n - 240) % 256 ∷ rest) ≡ Some (n, rest)
unfolding second
two_bytes_back n rest h k =
    let q = (n - 240) / 256 in
    let less : n - 240 < 2048 = sub-lt_left_of_lt-add (le_of_lt h) (lt_of_le_of_lt k (ltb-true 2287 2288 refl)) in
    let few : q ≤ 7 = le-pred_of_lt ((div-lt_iff_lt-mul {y = 8} (zero-lt-suc 255)).1 less) in
    cond-false _ _ _ (lt-leb (241 + q) 240 (le-add_right 241 q))
    ∙ cond-true _ _ _ (le-leb (241 + q) 248 (add-le-add (le_refl 241) few))
    ∙ ap (λ m. Some (m, rest)) (ap (λ m. 240 + 256 * m + (n - 240) % 256) (add-sub_cancel_left 241 q) ∙ over_back 240 n (le_of_lt h))

-- the form of a number above 67,823, whose width is the least of 3 to 8 that holds it
long_back : (n : ℕ) (rest : List ℕ) → n < 2 ^ 64 → number ((247 + width n) ∷ (octets (width n) n ++ rest)) ≡ Some (n, rest)
unfolding number
long_back n rest h =
    let P : ℕ → Type 0 = λ w. number ((247 + w) ∷ (octets w n ++ rest)) ≡ Some (n, rest) in
    cond_both _ _ _ P (λ e. field_back 3 n rest (ltb-true n (2 ^ 24) e)) λ _.
    cond_both _ _ _ P (λ e. field_back 4 n rest (ltb-true n (2 ^ 32) e)) λ _.
    cond_both _ _ _ P (λ e. field_back 5 n rest (ltb-true n (2 ^ 40) e)) λ _.
    cond_both _ _ _ P (λ e. field_back 6 n rest (ltb-true n (2 ^ 48) e)) λ _.
    cond_both _ _ _ P (λ e. field_back 7 n rest (ltb-true n (2 ^ 56) e)) λ _. field_back 8 n rest h

pub number_back : (n : ℕ) (rest : List ℕ) → n < 2 ^ 64 → number (shortest n ++ rest) ≡ Some (n, rest)
unfolding shortest number
number_back n rest h =
    let P : List ℕ → Type 0 = λ ds. number (ds ++ rest) ≡ Some (n, rest) in
    cond_both (nat_le n 240) _ _ P (λ e. cond-true _ _ _ e) λ e1.
    cond_both (nat_le n 2287) _ _ P (λ e. two_bytes_back n rest (leb-false n 240 e1) (leb-true n 2287 e)) λ e2.
    cond_both (nat_le n 67823) _ _ P (λ e. ap (λ m. Some (m, rest)) (over_back 2288 n (leb-false n 2287 e2))) λ e3.
    long_back n rest h

-- ---- words
pub word_back : (w : Word) (rest : List ℕ) → w.bits < 2 ^ 64 → read_word (eight w.bits ++ rest) ≡ Some (w, rest)
word_back w rest v = ap (λ o. next o λ n bs. Some (record { bits = n }, bs)) (field_back 8 w.bits rest v)

-- ---- message headers
pub kind_back : (k : MessageKind) → kind_of (kind_number k) ≡ k
kind_back Corrupted = refl
kind_back Canceled = refl
kind_back Cap = refl
kind_back BatchManifest = refl
kind_back Free = refl
kind_back Counter = refl
kind_back InlineMeta = refl
kind_back BlobMeta = refl
kind_back InlineNode = refl
kind_back BlobNode = refl
kind_back InlineLink = refl
kind_back BlobLink = refl

header_after_kind : ℕ → MessageKind → List ℕ → Option (MessageHeader × List ℕ)
header_after_kind crc kind bs =
    next (number bs) λ len bs. next (number bs) λ segment bs. next (number bs) λ page rest.
    Some (record { crc32 = crc; kind = kind; len = len; segment_number = segment; pid = page }, rest)

header_after_crc : ℕ → List ℕ → Option (MessageHeader × List ℕ)
unfolding header_after_kind
header_after_crc crc bs = next (second 0 bs) λ kind bs. header_after_kind crc (kind_of kind) bs

pub header_back : (h : MessageHeader) (rest : List ℕ) → MessageFits h → read_message_header (message_header h ++ rest) ≡ Some (h, rest)
unfolding header_after_kind header_after_crc
header_back h rest v =
    let a = shortest h.len in
    let b = shortest h.segment_number in
    let c = shortest h.pid in
    let k = kind_number h.kind in
    ap read_message_header (append_assoc (octets 4 h.crc32) (k ∷ [] ++ (a ++ (b ++ c))) rest)
    ∙ ap (λ o. next o header_after_crc) (field_back 4 h.crc32 (k ∷ [] ++ (a ++ (b ++ c)) ++ rest) v.0)
    ∙ ap (λ o. next o λ kind bs. header_after_kind h.crc32 (kind_of kind) bs) (second_back k ((a ++ (b ++ c)) ++ rest))
    ∙ ap₂ (λ kind bs. header_after_kind h.crc32 kind bs) (kind_back h.kind) (append_assoc a (b ++ c) rest ∙ ap (λ r. a ++ r) (append_assoc b c rest))
    ∙ ap (λ o. next o λ len bs. next (number bs) λ segment bs. next (number bs) λ page rest. Some (record { crc32 = h.crc32; kind = h.kind; len = len; segment_number = segment; pid = page }, rest))
    (number_back h.len (b ++ (c ++ rest)) v.1)
    ∙ ap (λ o. next o λ segment bs. next (number bs) λ page rest. Some (record { crc32 = h.crc32; kind = h.kind; len = h.len; segment_number = segment; pid = page }, rest))
    (number_back h.segment_number (c ++ rest) v.2)
    ∙ ap (λ o. next o λ page rest. Some (record { crc32 = h.crc32; kind = h.kind; len = h.len; segment_number = h.segment_number; pid = page }, rest))
    (number_back h.pid rest v.3)

-- ---- segment headers
pub masked_back : (n : ℕ) → masked (masked n) ≡ n
masked_back n = xor_assoc n _ _ ∙ ap (bit_xor n) (xor_self 0x7FFF_FFFF_FFFF_FFFF) ∙ xor_zero_r n

pub masked-lt : (n : ℕ) → n < 2 ^ 64 → masked n < 2 ^ 64
masked-lt n h = xor_lt 64 n 0x7FFF_FFFF_FFFF_FFFF h (ltb-true 0x7FFF_FFFF_FFFF_FFFF (2 ^ 64) refl)

segment_after_lsn : ℕ → ℕ → List ℕ → Option (SegmentHeader × List ℕ)
segment_after_lsn crc lsn bs =
    next (field 8 bs) λ mark rest. Some (record { crc32 = crc; lsn = record { bits = lsn }; max_stable_lsn = record { bits = masked mark } }, rest)

segment_after_crc : ℕ → List ℕ → Option (SegmentHeader × List ℕ)
segment_after_crc crc bs =
    next (field 8 bs) λ lsn bs. next (field 8 bs) λ mark rest.
    Some (record { crc32 = crc; lsn = record { bits = masked lsn }; max_stable_lsn = record { bits = masked mark } }, rest)

pub segment_back : (h : SegmentHeader) (rest : List ℕ) → SegmentFits h → read_segment_header (segment_header h ++ rest) ≡ Some (h, rest)
unfolding segment_after_lsn segment_after_crc
segment_back h rest v =
    let l = h.lsn.bits in
    let m = h.max_stable_lsn.bits in
    let a = octets 8 (masked l) in
    let b = octets 8 (masked m) in
    ap read_segment_header (append_assoc (octets 4 h.crc32) (a ++ b) rest ∙ ap (λ r. octets 4 h.crc32 ++ r) (append_assoc a b rest))
    ∙ ap (λ o. next o segment_after_crc) (field_back 4 h.crc32 (a ++ (b ++ rest)) v.0)
    ∙ ap (λ o. next o λ n bs. segment_after_lsn h.crc32 (masked n) bs) (field_back 8 (masked l) (b ++ rest) (masked-lt l v.1))
    ∙ ap (λ n. segment_after_lsn h.crc32 n (b ++ rest)) (masked_back l)
    ∙ ap (λ o. next o λ n bs. Some (record { crc32 = h.crc32; lsn = h.lsn; max_stable_lsn = record { bits = masked n } }, bs))
    (field_back 8 (masked m) rest (masked-lt m v.2))
    ∙ ap (λ n. Some (record { crc32 = h.crc32; lsn = h.lsn; max_stable_lsn = record { bits = n } }, rest)) (masked_back m)
