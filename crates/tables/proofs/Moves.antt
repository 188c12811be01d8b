-- Items of a slice moved by one place. Assumes nothing.
use Rattle.std.proofs.Common.{◌≡◌, ℕ, ◌+◌, ◌-◌, ◌<◌, ◌≤◌, List, [], ◌∷◌, ◌++◌, length, get_or, take, drop, set, sym, ap, ◌∙◌, ap₂, append_assoc, arith, length-append, length-drop, take-append-drop}
use borrow.Rule.Slice.PartMut.{put_mid}
use Rattle.std.specs.List.{insert}
use Rattle.std.proofs.lemmas.List.{drop_more, set_at, take_at, drop_at, length-take-le}

module _ {X : Type 0} where
  -- the k items from `at` on, after `rotate_right(1)`: the last of them stands first
  abbrev pub LastFirst : ℕ → ℕ → List X → List X → Type 0
  LastFirst at k xs last = last ≡ drop (length (take k (drop at xs)) - 1) (take k (drop at xs)) ++ take (length (take k (drop at xs)) - 1) (take k (drop at xs))

  -- `s[n] = x; s[at..=n].rotate_right(1)`
  pub inserted_by : (xs last : List X) (at n : ℕ) (x : X) → at ≤ n → n < length xs → LastFirst at (n + 1 - at) (set xs n x) last
      → put_mid at (n + 1 - at) (set xs n x) last ≡ insert (take n xs) at x ++ drop (n + 1) xs
  inserted_by xs last at n x le lt e =
      let A = take at (take n xs) in
      let M = drop at (take n xs) in
      let R = drop (n + 1) xs in
      let S = set xs n x in
      let lenT : length (take n xs) ≡ n = length-take-le n xs (omega arith) in
      let lenA : length A ≡ at = length-take-le at (take n xs) (omega arith) in
      let lenM : length M ≡ n - at = length-drop at (take n xs) ∙ omega arith in
      let whole : xs ≡ take n xs ++ (get_or xs n x ∷ R) = sym (take-append-drop n xs) ∙ ap (λ l. take n xs ++ l) (drop_more xs n x lt) in
      let is : S ≡ A ++ (M ++ x ∷ R) =
      ap (λ l. set l n x) whole ∙ set_at (take n xs) (get_or xs n x) R x n lenT
      ∙ ap (λ l. l ++ x ∷ R) (sym (take-append-drop at (take n xs))) ∙ append_assoc A M (x ∷ R)
      in
      let front : take at S ≡ A = ap (take at) is ∙ take_at A (M ++ x ∷ R) at lenA in
      let back : drop at S ≡ (M ++ x ∷ []) ++ R = ap (drop at) is ∙ drop_at A (M ++ x ∷ R) at lenA ∙ sym (append_assoc M (x ∷ []) R) in
      let lenP : length (M ++ x ∷ []) ≡ n + 1 - at = simp length-append (omega arith) in
      let part : take (n + 1 - at) (drop at S) ≡ M ++ x ∷ [] = ap (take (n + 1 - at)) back ∙ take_at (M ++ x ∷ []) R (n + 1 - at) lenP in
      let rest : drop (n + 1 - at) (drop at S) ≡ R = ap (drop (n + 1 - at)) back ∙ drop_at (M ++ x ∷ []) R (n + 1 - at) lenP in
      let short : length M ≡ length (M ++ x ∷ []) - 1 = omega arith in
      let turned : last ≡ x ∷ M =
      e ∙ ap (λ p. drop (length p - 1) p ++ take (length p - 1) p) part
      ∙ ap₂ ◌++◌ (drop_at M (x ∷ []) (length (M ++ x ∷ []) - 1) short) (take_at M (x ∷ []) (length (M ++ x ∷ []) - 1) short)
      in
      ap₂ ◌++◌ front (ap₂ ◌++◌ turned rest) ∙ sym (append_assoc A (x ∷ M) R)

  -- `s[..n].rotate_left(1); s[n - 1] = y`, where es are the first n items and rest are those behind them
  pub removed_by : (es turned rest : List X) (at : ℕ) (y : X) → 0 < length es → length (drop 1 es) ≡ at → turned ≡ drop 1 es ++ take 1 es → set (turned ++ rest) at y ≡ drop 1 es ++ y ∷ rest
  removed_by [] turned rest at y some len is = absurd (omega arith)
  removed_by (e ∷ es) turned rest at y some len is =
      ap (λ l. set (l ++ rest) at y) is ∙ ap (λ l. set l at y) (append_assoc es (e ∷ []) rest) ∙ set_at es e rest y at len
