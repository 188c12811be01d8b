-- The bytes read ahead of a message, and its body in them or behind them. Assumes nothing.
use Rattle.std.proofs.Common.{◌≡◌, ℕ, ◌+◌, ◌-◌, ◌<◌, ◌≤◌, min, List, ◌++◌, length, take, drop, replicate, sym, ap, ◌∙◌, ap₂, ⊎_elim, append-nil, arith, drop_of_length-le, drop-drop}
use lib.ListN.{length-replicate}
use lib.Seq.{take-append-le, take-append-add, drop-append-le}
use Rattle.std.proofs.lemmas.List.{drop-take, take-take, take_all, take-replicate, drop-replicate, length-drop}
use Rattle.std.proofs.lemmas.Bool.{cases_lt}
use Rattle.device.specs.Reads.{part, filled}
use Rattle.messages.specs.Raw.{ahead}

-- what there is, and zeros behind it
ahead_of : (m : ℕ) (d : List ℕ) → take (min m (length d)) d ++ drop (min m (length d)) (replicate m 0) ≡ take m (d ++ replicate m 0)
ahead_of m d =
    ⊎_elim
    (λ (h : m < length d).
    let n : min m (length d) ≡ m = omega arith in
    ap₂ (λ a b. take a d ++ drop b (replicate m 0)) n n
    ∙ ap (λ r. take m d ++ r) (drop_of_length-le (replicate m 0) (omega (arith, length-replicate {A = ℕ} m 0)))
    ∙ append-nil (take m d) ∙ sym (take-append-le m d (replicate m 0) (omega arith)))
    (λ (h : length d ≤ m).
    let n : min m (length d) ≡ length d = omega arith in
    let k : length d + (m - length d) ≡ m = omega arith in
    ap₂ (λ a b. take a d ++ drop b (replicate m 0)) n n
    ∙ ap₂ (λ a b. a ++ b) (take_all (length d) d (omega arith)) (drop-replicate (length d) m 0)
    ∙ ap (λ r. d ++ r) (sym (take-replicate (m - length d) m 0 (omega arith)))
    ∙ sym (take-append-add d (replicate m 0) (m - length d))
    ∙ ap (λ j. take j (d ++ replicate m 0)) k)
    (cases_lt m (length d))

pub window_is : (first place : ℕ) (bytes w : List ℕ) → first ≤ place → place ≤ first + length bytes
    → w ≡ filled first bytes place (replicate 128 0) → w ≡ take 128 (ahead bytes (place - first))
unfolding ahead
window_is first place bytes w a b e =
    let d = drop (place - first) bytes in
    let long : first + length bytes - place ≡ length d = omega (arith, length-drop (place - first) bytes) in
    e ∙ ap (λ n. take (min 128 n) d ++ drop (min 128 n) (replicate 128 0)) long ∙ ahead_of 128 d

-- a part of a front
pub front_part : (w : List ℕ) (hl n m : ℕ) → hl + n ≤ m → take n (drop hl (take m w)) ≡ take n (drop hl w)
front_part w hl n m h =
    let k : hl + (m - hl) ≡ m = omega arith in
    ap (λ j. take n (drop hl (take j w))) (sym k) ∙ ap (take n) (drop-take hl (m - hl) w) ∙ take-take n (m - hl) (drop hl w) (omega arith)

-- the body where the view has it whole
pub body_part : (first place hl n : ℕ) (bytes : List ℕ) → first ≤ place → hl + n ≤ first + length bytes - place
    → part first bytes (place + hl) n ≡ take n (drop hl (ahead bytes (place - first)))
unfolding ahead
body_part first place hl n bytes a h =
    let off = place - first in
    let d = drop off bytes in
    let long = length-drop off bytes in
    let at : place + hl - first ≡ off + hl = omega arith in
    ap (λ j. take n (drop j bytes)) at ∙ ap (take n) (sym (drop-drop hl off bytes))
    ∙ sym (take-append-le n (drop hl d) (replicate 128 0) (omega (arith, length-drop hl d)))
    ∙ ap (take n) (sym (drop-append-le hl d (replicate 128 0) (omega arith)))
