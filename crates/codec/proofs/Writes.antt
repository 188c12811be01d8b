-- Bytes written one after another. Assumes nothing.
use Rattle.std.specs.Prelude.{◌≡◌, ℕ, suc, ◌+◌, ◌-◌, ◌≤◌, List, [], ◌∷◌, ◌++◌, length, take, drop, slice_set}
use Rattle.std.proofs.Common.{sym, ap, ap₂, ◌∙◌, append-nil, append_assoc, add-zero, add-suc, suc-add, arith, drop_of_length-le, drop-drop, take_at}
use Rattle.std.proofs.lemmas.List.Edits.{sets, sets-eq}

pub sets-append : (xs ys l : List ℕ) (i : ℕ) → sets l i (xs ++ ys) ≡ sets (sets l i xs) (i + length xs) ys
sets-append [] ys l i = ap (λ n. sets l n ys) (sym (add-zero i))
sets-append (x ∷ xs) ys l i =
    sets-append xs ys (slice_set l i x) (suc i)
    ∙ ap (λ n. sets (sets (slice_set l i x) (suc i) xs) n ys) (suc-add i (length xs) ∙ sym (add-suc i (length xs)))

-- ys behind xs
pub sets_then : (l m n : List ℕ) (at a : ℕ) (xs ys : List ℕ) → m ≡ sets l at xs → a ≡ at + length xs → n ≡ sets m a ys → n ≡ sets l at (xs ++ ys)
sets_then l m n at a xs ys p q r = r ∙ ap₂ (λ k i. sets k i ys) p q ∙ sym (sets-append xs ys l at)

-- at the front of a buffer, and over the whole of it
pub sets_front : (l bs : List ℕ) → length bs ≤ length l → sets l 0 bs ≡ bs ++ drop (length bs) l
sets_front l bs h = sets-eq bs l 0 (omega arith) ∙ ap (λ n. bs ++ drop n l) (omega arith)

pub sets_whole : (l bs : List ℕ) → length bs ≡ length l → sets l 0 bs ≡ bs
sets_whole l bs h = sets_front l bs (omega arith) ∙ ap (λ r. bs ++ r) (drop_of_length-le l (omega arith)) ∙ append-nil bs

-- what stands at the front after a write there
pub take_front : (l m bs : List ℕ) (n : ℕ) → m ≡ sets l 0 bs → n ≡ length bs → length bs ≤ length l → take n m ≡ bs
take_front l m bs n e h k = ap (take n) (e ∙ sets_front l bs k) ∙ take_at bs (drop (length bs) l) n (sym h)

-- a part of a buffer, overwritten
pub put_part : (l ys bs : List ℕ) (at : ℕ) → ys ≡ bs → at + length bs ≤ length l → take at l ++ (ys ++ drop (at + length bs - at) (drop at l)) ≡ sets l at bs
put_part l ys bs at e h =
    let n : at + (at + length bs - at) ≡ at + length bs = omega arith in
    ap₂ (λ x y. take at l ++ (x ++ y)) e (drop-drop (at + length bs - at) at l ∙ ap (λ k. drop k l) n)
    ∙ sym (append_assoc (take at l) bs (drop (at + length bs) l)) ∙ sym (sets-eq bs l at h)
