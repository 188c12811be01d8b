-- A segment's bytes in the lent buffer, and a message read there. Assumes nothing.
use Rattle.std.proofs.Common.{◌≡◌, ℕ, ◌+◌, ◌-◌, ◌/◌, ◌<◌, ◌≤◌, min, true, cond, List, [], ◌++◌, length, take, drop, Ok, Err, Option, Result, is_ok, refl, sym, ap, ◌∙◌, ap₂, ⊎_elim, append_assoc, arith, length-drop, length-take, take_all, take_at}
use Rattle.std.specs.Result.{result_unwrap_or}
use Rattle.std.proofs.lemmas.List.{drop_all}
use Rattle.std.proofs.lemmas.Bool.{cond-true, le-leb, cases_lt}
use Rattle.std.proofs.lemmas.Bool.Decides.{nat_tests}
use Rattle.blobs.specs.declared.note.Note.{Note}
use Rattle.device.proofs.Replies.{eof_ok, eof_err}
use Rattle.device.specs.Reads.{begins, available, part, filled, eof_reply}
use Rattle.device.specs.declared.error.DeviceError.{DeviceError}
use Rattle.layout.specs.Sizes.{is_segment_size}
use Rattle.messages.specs.Raw.{raw_at}
use Rattle.messages.specs.Told.{understood, message_read}
use Rattle.messages.specs.declared.log_read.LogRead.{LogRead}
use Rattle.refusals.specs.declared.refusal.Refusal.{Refusal}
use Rattle.scan.specs.Order.{Segment}
use Rattle.walks.specs.Walk.{segment_bytes, read_in}

-- as many bytes as there are
shorter : (n size : ℕ) (l : List ℕ) → n ≡ min size (length l) → take n l ≡ take size l
shorter n size l e =
    ⊎_elim (λ (h : size < length l). let q : n ≡ size = omega arith in ap (λ k. take k l) q)
    (λ (h : length l ≤ size). take_all n l (omega arith) ∙ sym (take_all size l h)) (cases_lt size (length l))

begun : (first place : ℕ) (bytes : List ℕ) → begins first bytes place ≡ true → place ≤ first + length bytes
begun first place bytes h = grind (arith, nat_tests)

pub loaded : (first place size n k : ℕ) (bytes dst after tail : List ℕ) → first ≡ 0 → k ≡ size → length dst ≡ k → Ok n ≡ eof_reply first bytes place k → after ≡ filled first bytes place dst → take n (after ++ tail) ≡ segment_bytes size bytes place
unfolding segment_bytes
loaded first place size n k bytes dst after tail z q l r a =
    let o = eof_ok first place k n bytes r in
    let av = available first bytes place (length dst) in
    let e : n ≡ av = o.1 ∙ ap (available first bytes place) (sym l) in
    let at : place - first ≡ place = omega arith in
    let b : place ≤ first + length bytes = begun first place bytes o.0 in
    let d = length-drop place bytes in
    let x : part first bytes place av ≡ take n (drop place bytes) = ap₂ (λ i j. take i (drop j bytes)) (sym e) at in
    let m : n ≡ min size (length (drop place bytes)) = omega arith in
    let w : length (take n (drop place bytes)) ≡ n = length-take n (drop place bytes) ∙ omega arith in
    ap (λ y. take n (y ++ tail)) (a ∙ ap (λ y. y ++ drop av dst) x) ∙ ap (take n) (append_assoc (take n (drop place bytes)) (drop av dst) tail)
    ∙ take_at (take n (drop place bytes)) (drop av dst ++ tail) n w ∙ shorter n size (drop place bytes) m

pub loaded_none : (first place size k : ℕ) (bytes : List ℕ) (x : DeviceError) → first ≡ 0 → Err x ≡ eof_reply first bytes place k → [] ≡ segment_bytes size bytes place
unfolding segment_bytes
loaded_none first place size k bytes x z r =
    let b = eof_err first place k bytes x r in
    let h : length bytes ≤ place = grind (arith, nat_tests) in
    sym (ap (take size) (drop_all place bytes h) ∙ take_all size [] (omega arith))

-- what a read of a segment into the front of a buffer leaves there
pub load_is : (first place size n : ℕ) (bytes dst after tail : List ℕ) (r : Result ℕ DeviceError) → first ≡ 0 → length dst ≡ size → r ≡ eof_reply first bytes place (length dst)
    → after ≡ cond (is_ok r) (filled first bytes place dst) dst → n ≡ result_unwrap_or r 0 → take n (after ++ tail) ≡ segment_bytes size bytes place
load_is first place size n bytes dst after tail (Ok m) z l r a e =
    ap (λ k. take k (after ++ tail)) e ∙ loaded first place size m (length dst) bytes dst after tail z l refl r a
load_is first place size n bytes dst after tail (Err x) z l r a e =
    ap (λ k. take k (after ++ tail)) e ∙ loaded_none first place size (length dst) bytes x z r

pub read_held : (notes : ℕ → Option Note) (size m room n p : ℕ) (dev buffer : List ℕ) (s : Segment) (r : Result LogRead Refusal) → m ≡ size → is_segment_size m ≡ true → size ≤ room
    → take n buffer ≡ segment_bytes size dev s.value → r ≡ message_read notes room m (s.key + p) s.value (take n buffer) (s.value + p) → r ≡ read_in notes size dev s p
unfolding read_in
read_held notes size m room n p dev buffer s r is z l e i =
    i ∙ ap (λ k. message_read notes room k (s.key + p) s.value (take n buffer) (s.value + p)) is
    ∙ cond-true _ _ _ (ap is_segment_size (sym is) ∙ z) ∙ cond-true _ _ _ (le-leb size room l)
    ∙ ap (λ b. understood notes (s.value + p) (s.key + p) (raw_at size ((s.key + p) / size) s.value b (s.value + p))) e
