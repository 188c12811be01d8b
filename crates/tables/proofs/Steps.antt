-- The definitions on a map, one step at its first entry. Assumes nothing.
use Rattle.std.proofs.Common.{◌≡◌, ℕ, suc, ◌<◌, ◌≤◌, true, cond, eqb, List, ◌∷◌, Some, ◌∙◌, arith}
use Rattle.std.proofs.lemmas.Bool.{cond-true, cond-false, lt-ltb, le-ltb, ltb-true, eq-eqb, ne_eqb, and_parts, and_from}
use Rattle.tables.specs.declared.entry.Entry.{Entry}
use Rattle.tables.specs.Entries.{below, rising, find, put, rank}

module _ {V : Type 0} (e : Entry V) (es : List (Entry V)) where
  pub below_first : (k : ℕ) → below k (e ∷ es) ≡ true → k < e.key
  unfolding below
  below_first k u = ltb-true k e.key u

  pub below_more : (k : ℕ) → k < e.key → below k (e ∷ es) ≡ true
  unfolding below
  below_more k h = lt-ltb k e.key h

  pub rising_parts : rising (e ∷ es) ≡ true → (below e.key es ≡ true) × (rising es ≡ true)
  unfolding rising
  rising_parts o = and_parts (below e.key es) (rising es) o

  pub rising_more : below e.key es ≡ true → rising es ≡ true → rising (e ∷ es) ≡ true
  unfolding rising
  rising_more u o = and_from (below e.key es) (rising es) u o

  pub find_first : (k : ℕ) → e.key ≡ k → find k (e ∷ es) ≡ Some e.value
  unfolding find
  find_first k s = cond-true _ _ _ (eq-eqb e.key k s)

  pub find_more : (k : ℕ) → (e.key ≡ k → ⊥) → find k (e ∷ es) ≡ find k es
  unfolding find
  find_more k other = cond-false _ _ _ (ne_eqb e.key k other)

  pub rank_first : (k : ℕ) → k ≤ e.key → rank k (e ∷ es) ≡ 0
  unfolding rank
  rank_first k h = cond-false _ _ _ (le-ltb e.key k h)

  pub rank_more : (k : ℕ) → e.key < k → rank k (e ∷ es) ≡ suc (rank k es)
  unfolding rank
  rank_more k h = cond-true _ _ _ (lt-ltb e.key k h)

  module _ (x : Entry V) where
    pub put_more : e.key < x.key → put x (e ∷ es) ≡ e ∷ put x es
    unfolding put
    put_more h = cond-true _ _ _ (lt-ltb e.key x.key h)

    past : x.key ≤ e.key → put x (e ∷ es) ≡ cond (eqb e.key x.key) (x ∷ es) (x ∷ e ∷ es)
    unfolding put
    past h = cond-false _ _ _ (le-ltb e.key x.key h)

    pub put_same : e.key ≡ x.key → put x (e ∷ es) ≡ x ∷ es
    put_same s = past (omega arith) ∙ cond-true _ _ _ (eq-eqb e.key x.key s)

    pub put_first : x.key < e.key → put x (e ∷ es) ≡ x ∷ e ∷ es
    put_first h = past (omega arith) ∙ cond-false _ _ _ (ne_eqb e.key x.key (λ s. omega arith))
