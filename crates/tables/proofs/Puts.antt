-- What `put` does to a map: where it writes, that keys still rise, and what is found then. Assumes nothing.
use Rattle.std.proofs.Common.{◌≡◌, ℕ, ◌<◌, true, List, [], ◌∷◌, set, is_some, Some, None, sym, refl, ap, ◌∙◌, subst, ⊎_elim, arith}
use Rattle.std.proofs.lemmas.Bool.{cases_eq, cases_order, false≢true}
use Rattle.std.specs.List.{insert}
use Rattle.tables.specs.declared.entry.Entry.{Entry}
use Rattle.tables.specs.Entries.{below, rising, find, put, rank}
use Rattle.tables.proofs.Steps.{below_first, below_more, rising_parts, rising_more, find_first, find_more, rank_first, rank_more, put_more, put_same, put_first}
use Rattle.tables.proofs.Ranks.{below_none}

module _ {V : Type 0} (x : Entry V) where
  -- a key that the map has: its entry is written over
  pub put_found : (at : ℕ) (es : List (Entry V)) → rising es ≡ true → at ≡ rank x.key es → is_some (find x.key es) ≡ true → set es at x ≡ put x es
  unfolding find
  put_found at [] o is s = absurd (false≢true s)
  put_found at (e ∷ es) o is s =
      ⊎_elim (λ eq. ap (λ n. set (e ∷ es) n x) (is ∙ rank_first e es x.key (omega arith)) ∙ sym (put_same e es x eq))
      (⊎_elim
      (λ lt.
      let more = find_more e es x.key (λ q. omega arith) in
      ap (λ n. set (e ∷ es) n x) (is ∙ rank_more e es x.key lt)
      ∙ ap (λ l. e ∷ l) (put_found (rank x.key es) es (rising_parts e es o).1 refl (sym (ap is_some more) ∙ s)) ∙ sym (put_more e es x lt))
      (λ gt. absurd (false≢true (sym (ap is_some (below_none x.key (e ∷ es) (below_more e es x.key gt) o)) ∙ s))))
      (cases_order e.key x.key)

  -- a new key: its entry goes between
  pub put_none : (at : ℕ) (es : List (Entry V)) → at ≡ rank x.key es → find x.key es ≡ None → insert es at x ≡ put x es
  unfolding rank put
  put_none at [] is f = ap (λ n. insert [] n x) is
  put_none at (e ∷ es) is f =
      ⊎_elim (λ eq. absurd (false≢true (sym (ap is_some f) ∙ ap is_some (find_first e es x.key eq))))
      (⊎_elim
      (λ lt.
      ap (λ n. insert (e ∷ es) n x) (is ∙ rank_more e es x.key lt)
      ∙ ap (λ l. e ∷ l) (put_none (rank x.key es) es refl (sym (find_more e es x.key (λ q. omega arith)) ∙ f)) ∙ sym (put_more e es x lt))
      (λ gt. ap (λ n. insert (e ∷ es) n x) (is ∙ rank_first e es x.key (omega arith)) ∙ sym (put_first e es x gt)))
      (cases_order e.key x.key)

  below_put : (k : ℕ) (es : List (Entry V)) → k < x.key → below k es ≡ true → below k (put x es) ≡ true
  unfolding put
  below_put k [] h u = below_more x [] k h
  below_put k (e ∷ es) h u =
      ⊎_elim (λ eq. ap (below k) (put_same e es x eq) ∙ below_more x es k h)
      (⊎_elim (λ lt. ap (below k) (put_more e es x lt) ∙ below_more e (put x es) k (below_first e es k u)) (λ gt. ap (below k) (put_first e es x gt) ∙ below_more x (e ∷ es) k h))
      (cases_order e.key x.key)

  pub rising-put : (es : List (Entry V)) → rising es ≡ true → rising (put x es) ≡ true
  unfolding rising put below
  rising-put [] o = refl
  rising-put (e ∷ es) o =
      let p = rising_parts e es o in
      ⊎_elim (λ eq. ap rising (put_same e es x eq) ∙ rising_more x es (subst (λ n. below n es ≡ true) eq p.0) p.1)
      (⊎_elim
      (λ lt. ap rising (put_more e es x lt) ∙ rising_more e (put x es) (below_put e.key es lt p.0) (rising-put es p.1))
      (λ gt. ap rising (put_first e es x gt) ∙ rising_more x (e ∷ es) (below_more e es x.key gt) o))
      (cases_order e.key x.key)

  -- ---- what is found
  pub find-put : (es : List (Entry V)) → find x.key (put x es) ≡ Some x.value
  unfolding put
  find-put [] = find_first x [] x.key refl
  find-put (e ∷ es) =
      ⊎_elim (λ eq. ap (find x.key) (put_same e es x eq) ∙ find_first x es x.key refl)
      (⊎_elim
      (λ lt. ap (find x.key) (put_more e es x lt) ∙ find_more e (put x es) x.key (λ q. omega arith) ∙ find-put es)
      (λ gt. ap (find x.key) (put_first e es x gt) ∙ find_first x (e ∷ es) x.key refl))
      (cases_order e.key x.key)

  pub find-put_other : (q : ℕ) (es : List (Entry V)) → (x.key ≡ q → ⊥) → find q (put x es) ≡ find q es
  unfolding put
  find-put_other q [] other = find_more x [] q other
  find-put_other q (e ∷ es) other =
      ⊎_elim (λ eq. ap (find q) (put_same e es x eq) ∙ find_more x es q other ∙ sym (find_more e es q (λ s. other (sym eq ∙ s))))
      (⊎_elim
      (λ lt.
      ap (find q) (put_more e es x lt)
      ∙ ⊎_elim (λ s. find_first e (put x es) q s ∙ sym (find_first e es q s)) (λ s. find_more e (put x es) q s ∙ find-put_other q es other ∙ sym (find_more e es q s)) (cases_eq e.key q))
      (λ gt. ap (find q) (put_first e es x gt) ∙ find_more x (e ∷ es) q other))
      (cases_order e.key x.key)
