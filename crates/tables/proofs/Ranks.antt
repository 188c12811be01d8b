-- Keys that rise: where a key stands, and what is found there. Assumes nothing.
use Rattle.std.proofs.Common.{◌≡◌, ℕ, zero, suc, ◌<◌, ◌≤◌, true, List, [], ◌∷◌, length, get_or, is_some, Some, None, sym, refl, ap, ◌∙◌, subst, ⊎_elim, le_of_suc-le-suc, not-suc-le-zero, arith, Result, Ok, Err}
use Rattle.std.specs.Result.{result_ok}
use Rattle.std.proofs.lemmas.Bool.{cases_lt, cases_order, false≢true}
use Rattle.tables.specs.declared.entry.Entry.{Entry}
use Rattle.tables.specs.Entries.{below, rising, find, rank, Located}
use Rattle.tables.proofs.Steps.{below_first, below_more, rising_parts, find_first, find_more, rank_first, rank_more}

module _ {V : Type 0} where
  -- a key below the first lies below every one, and is not found
  pub below_all : (k i : ℕ) (es : List (Entry V)) (d : Entry V) → below k es ≡ true → rising es ≡ true → i < length es → k < (get_or es i d).key
  below_all k i [] d u o h = absurd (not-suc-le-zero h)
  below_all k zero (e ∷ es) d u o h = below_first e es k u
  below_all k (suc i) (e ∷ es) d u o h =
      let p = rising_parts e es o in omega (arith, below_first e es k u, below_all e.key i es d p.0 p.1 (le_of_suc-le-suc h))

  below_less : (k m : ℕ) (es : List (Entry V)) → k < m → below m es ≡ true → below k es ≡ true
  unfolding below
  below_less k m [] h u = refl
  below_less k m (e ∷ es) h u = below_more e es k (omega (arith, below_first e es m u))

  pub below_none : (k : ℕ) (es : List (Entry V)) → below k es ≡ true → rising es ≡ true → find k es ≡ None
  unfolding find
  below_none k [] u o = refl
  below_none k (e ∷ es) u o =
      let p = rising_parts e es o in
      let lt = below_first e es k u in
      find_more e es k (λ s. omega arith) ∙ below_none k es (below_less k e.key es lt p.0) p.1

  -- the first key lies below each later one
  first-least : (e : Entry V) (es : List (Entry V)) (i : ℕ) (d : Entry V) → rising (e ∷ es) ≡ true → suc i < length (e ∷ es) → e.key < (get_or es i d).key
  first-least e es i d o h = let p = rising_parts e es o in below_all e.key i es d p.0 p.1 (le_of_suc-le-suc h)

  pub rank_most : (k : ℕ) (es : List (Entry V)) → rank k es ≤ length es
  unfolding rank
  rank_most k [] = omega arith
  rank_most k (e ∷ es) =
      ⊎_elim (λ lt. omega (arith, rank_more e es k lt, rank_most k es)) (λ ge. omega (arith, rank_first e es k ge)) (cases_lt e.key k)

  pub rank_above : (k i : ℕ) (es : List (Entry V)) (d : Entry V) → i < length es → k ≤ (get_or es i d).key → rank k es ≤ i
  rank_above k i [] d h le = absurd (not-suc-le-zero h)
  rank_above k zero (e ∷ es) d h le = omega (arith, rank_first e es k le)
  rank_above k (suc i) (e ∷ es) d h le =
      ⊎_elim (λ lt. omega (arith, rank_more e es k lt, rank_above k i es d (le_of_suc-le-suc h) le)) (λ ge. omega (arith, rank_first e es k ge)) (cases_lt e.key k)

  pub rank_below : (k i : ℕ) (es : List (Entry V)) (d : Entry V) → rising es ≡ true → i < length es → (get_or es i d).key < k → i < rank k es
  rank_below k i [] d o h lt = absurd (not-suc-le-zero h)
  rank_below k zero (e ∷ es) d o h lt = omega (arith, rank_more e es k lt)
  rank_below k (suc i) (e ∷ es) d o h lt =
      let l = first-least e es i d o h in
      omega (arith, rank_more e es k (omega arith), rank_below k i es d (rising_parts e es o).1 (le_of_suc-le-suc h) lt)

  -- where the key stands is its rank, and its value is found
  pub rank_here : (k i : ℕ) (es : List (Entry V)) (d : Entry V) → rising es ≡ true → i < length es → (get_or es i d).key ≡ k → i ≡ rank k es
  rank_here k i [] d o h s = absurd (not-suc-le-zero h)
  rank_here k zero (e ∷ es) d o h s = sym (rank_first e es k (omega arith))
  rank_here k (suc i) (e ∷ es) d o h s =
      let l = first-least e es i d o h in
      ap suc (rank_here k i es d (rising_parts e es o).1 (le_of_suc-le-suc h) s) ∙ sym (rank_more e es k (omega arith))

  pub find_here : (k i : ℕ) (es : List (Entry V)) (d : Entry V) → rising es ≡ true → i < length es → (get_or es i d).key ≡ k → find k es ≡ Some (get_or es i d).value
  find_here k i [] d o h s = absurd (not-suc-le-zero h)
  find_here k zero (e ∷ es) d o h s = find_first e es k s
  find_here k (suc i) (e ∷ es) d o h s =
      let l = first-least e es i d o h in
      find_more e es k (λ q. omega arith) ∙ find_here k i es d (rising_parts e es o).1 (le_of_suc-le-suc h) s

  -- where a larger key or none stands at the key's rank, it is not found
  pub find_none : (k : ℕ) (es : List (Entry V)) → rising es ≡ true → ((d : Entry V) → rank k es < length es → k < (get_or es (rank k es) d).key) → find k es ≡ None
  unfolding find
  find_none k [] o h = refl
  find_none k (e ∷ es) o h =
      ⊎_elim
      (λ lt.
      let at = rank_more e es k lt in
      find_more e es k (λ q. omega arith) ∙ find_none k es (rising_parts e es o).1 (λ d b. subst (λ n. k < (get_or (e ∷ es) n d).key) at (h d (omega arith))))
      (λ ge.
      let at = rank_first e es k ge in
      below_none k (e ∷ es) (below_more e es k (subst (λ n. k < (get_or (e ∷ es) n e).key) at (h e (omega arith)))) o)
      (cases_lt e.key k)

  -- what is read at the rank of a key that is found
  pub find_at : (k at : ℕ) (es : List (Entry V)) (d : Entry V) → rising es ≡ true → at ≡ rank k es → is_some (find k es) ≡ true → Some (get_or es at d).value ≡ find k es
  unfolding find
  find_at k at [] d o is s = absurd (false≢true s)
  find_at k at (e ∷ es) d o is s =
      ⊎_elim (λ eq. ap (λ n. Some (get_or (e ∷ es) n d).value) (is ∙ rank_first e es k (omega arith)) ∙ sym (find_first e es k eq))
      (⊎_elim
      (λ lt.
      let more = find_more e es k (λ q. omega arith) in
      ap (λ n. Some (get_or (e ∷ es) n d).value) (is ∙ rank_more e es k lt)
      ∙ find_at k (rank k es) es d (rising_parts e es o).1 refl (sym (ap is_some more) ∙ s) ∙ sym more)
      (λ gt. absurd (false≢true (sym (ap is_some (below_none k (e ∷ es) (below_more e es k gt) o)) ∙ s))))
      (cases_order e.key k)

  -- what is read where a search ended, if it found the key
  pub find_located : (k at : ℕ) (es : List (Entry V)) (r : Result ℕ ℕ) (d : Entry V) → rising es ≡ true → Located k es r → result_ok r ≡ Some at → Some (get_or es at d).value ≡ find k es
  find_located k at es (Ok i) d o l is = let same : i ≡ at = cc in ap (λ n. Some (get_or es n d).value) (sym same) ∙ find_at k i es d o l.1 l.2
  find_located k at es (Err i) d o l is = cc
