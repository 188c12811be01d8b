-- A slice that is written over item by item. Assumes nothing.
use Rattle.std.proofs.Common.{◌≡◌, ℕ, ◌+◌, ◌<◌, List, [], ◌∷◌, ◌++◌, length, get_or, drop, set, replicate, sym, ap, ◌∙◌, ap₂, append_assoc, arith}
use lib.ListN.{length-replicate}
use Rattle.std.proofs.lemmas.List.{drop_more, set_at, replicate_more, drop_all, append-nil}

module _ {X : Type 0} (xs ys : List X) (i : ℕ) (y : X) where
  -- one turn of a loop that writes y over each item, and its end
  pub fill_more : i < length xs → ys ≡ replicate i y ++ drop i xs → set ys i y ≡ replicate (i + 1) y ++ drop (i + 1) xs
  fill_more h is =
      ap (λ l. set l i y) (is ∙ ap (λ l. replicate i y ++ l) (drop_more xs i y h))
      ∙ set_at (replicate i y) (get_or xs i y) (drop (i + 1) xs) y i (length-replicate i y)
      ∙ sym (append_assoc (replicate i y) (y ∷ []) (drop (i + 1) xs))
      ∙ ap (λ l. l ++ drop (i + 1) xs) (replicate_more i y)

  pub fill_all : i ≡ length xs → ys ≡ replicate i y ++ drop i xs → ys ≡ replicate (length xs) y
  fill_all h is = is ∙ ap₂ (λ k l. replicate k y ++ l) h (drop_all i xs (omega arith)) ∙ append-nil (replicate (length xs) y)
