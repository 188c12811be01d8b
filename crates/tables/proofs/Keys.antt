-- The laws of a map by its keys and places. Assumes nothing.
use Rattle.std.proofs.Common.{◌≡◌, ℕ, zero, suc, ◌+◌, ◌<◌, ◌≤◌, true, false, cond, List, [], ◌∷◌, length, get_or, is_some, Some, None, Option, sym, refl, ap, ◌∙◌, ⊎_elim, suc-le-suc, le_of_suc-le-suc, arith, length-set}
use Rattle.std.proofs.lemmas.List.Edits.{length-insert}
use Rattle.std.proofs.lemmas.Bool.{cond-true, cond-false, cases_Bool, cases_eq, cases_lt, false≢true}
use Rattle.std.specs.List.{slice_get}
use Rattle.tables.specs.declared.entry.Entry.{Entry}
use Rattle.tables.specs.Entries.{rising, find, put, rank}
use Rattle.tables.specs.Laws.{Laws}
use Rattle.tables.proofs.Steps.{below_more, rising_parts, find_first, find_more}
use Rattle.tables.proofs.Ranks.{below_all, below_none, rank_most, find_here}
use Rattle.tables.proofs.Puts.{put_found, put_none, rising-put, find-put, find-put_other}

module _ {V : Type 0} where
  nth_inside : (es : List (Entry V)) (i : ℕ) (e : Entry V) → slice_get es i ≡ Some e → (i < length es) × (get_or es i e ≡ e)
  nth_inside [] i e f = absurd (false≢true (ap is_some f))
  nth_inside (x ∷ es) zero e f = (omega arith, cc)
  nth_inside (x ∷ es) (suc i) e f = let h = nth_inside es i e f in (suc-le-suc h.0, h.1)

  least : (e : Entry V) (es : List (Entry V)) (k : ℕ) → rising (e ∷ es) ≡ true → is_some (find k (e ∷ es)) ≡ true → e.key ≤ k
  least e es k o s =
      ⊎_elim (λ lt. absurd (false≢true (sym (ap is_some (below_none k (e ∷ es) (below_more e es k lt) o)) ∙ s))) (λ ge. ge) (cases_lt k e.key)

  apart : (es : List (Entry V)) (i j : ℕ) (d e : Entry V) → rising es ≡ true → slice_get es i ≡ Some d → slice_get es j ≡ Some e → i < j → d.key < e.key
  apart [] i j d e o f h lt = absurd (false≢true (ap is_some f))
  apart (x ∷ es) i zero d e o f h lt = absurd (omega arith)
  apart (x ∷ es) zero (suc j) d e o f h lt =
      let p = rising_parts x es o in
      let n = nth_inside es j e h in
      let first : x.key ≡ d.key = ap (λ y. y.key) (nth_inside (x ∷ es) zero d f).1 in
      let there : (get_or es j e).key ≡ e.key = ap (λ y. y.key) n.1 in
      omega (arith, below_all x.key j es e p.0 p.1 n.0)
  apart (x ∷ es) (suc i) (suc j) d e o f h lt = apart es i j d e (rising_parts x es o).1 f h (le_of_suc-le-suc lt)

  placed : (es : List (Entry V)) (i : ℕ) (e : Entry V) → rising es ≡ true → slice_get es i ≡ Some e → find e.key es ≡ Some e.value
  placed es i e o f =
      let n = nth_inside es i e f in find_here e.key i es e o n.0 (ap (λ y. y.key) n.1) ∙ ap (λ y. Some y.value) n.1

  stands : (es : List (Entry V)) (k : ℕ) (v : V) → find k es ≡ Some v → (i : ℕ) × (i < length es) × (slice_get es i ≡ Some (record { key = k; value = v }))
  unfolding find
  stands [] k v f = absurd (false≢true (ap is_some f))
  stands (e ∷ es) k v f =
      ⊎_elim
      (λ eq.
      let at : e.value ≡ v = let g = sym (find_first e es k eq) ∙ f in cc in
      (0, omega arith, λ i. Some (record { key = eq i; value = at i })))
      (λ ne. let h = stands es k v (sym (find_more e es k ne) ∙ f) in (suc h.0, suc-le-suc h.1, h.2))
      (cases_eq e.key k)

  not_some : (o : Option V) → is_some o ≡ false → o ≡ None
  not_some None f = refl
  not_some (Some v) f = absurd (false≢true (sym f))

  counted : (x : Entry V) (es : List (Entry V)) → rising es ≡ true → length (put x es) ≡ cond (is_some (find x.key es)) (length es) (length es + 1)
  counted x es o =
      let at = rank x.key es in
      ⊎_elim (λ s. ap length (sym (put_found x at es o refl s)) ∙ length-set es at x ∙ sym (cond-true _ _ _ s))
      (λ f. ap length (sym (put_none x at es refl (not_some (find x.key es) f))) ∙ length-insert es at x (rank_most x.key es) ∙ sym (cond-false _ _ _ f))
      (cases_Bool (is_some (find x.key es)))

pub laws : (V : Type 0) → Laws V
laws V = record {
  found = find-put;
  others = λ x es k other. find-put_other x k es (λ s. other (sym s));
  rises = rising-put;
  least = least;
  gone = λ e es o. let p = rising_parts e es o in below_none e.key es p.0 p.1;
  stays = λ e es k other. sym (find_more e es k (λ s. other (sym s)));
  apart = apart;
  placed = placed;
  stands = stands;
  counted = counted;
}
