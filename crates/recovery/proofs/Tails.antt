-- The tail of a log, segment by segment. Assumes nothing.
use Rattle.std.proofs.Common.{◌≡◌, ℕ, zero, suc, ◌+◌, ◌<◌, ◌≤◌, ltb, true, false, List, [], ◌∷◌, ◌++◌, length, get_or, take, drop, ◌^◌, sym, refl, ap, ◌∙◌, append_assoc, arith}
use Rattle.std.proofs.lemmas.List.{drop_more, drop_all, take_more, take_all, append-nil}
use Rattle.std.proofs.lemmas.Bool.{ne_eqb}
use Rattle.std.proofs.lemmas.Bool.Decides.{nat_tests}
use Rattle.std.specs.List.Sorted.{IsPartitionPoint, IsPartitionedBy}
use Rattle.tables.proofs.Ranks.{below_all}
use Rattle.tables.proofs.Steps.{rising_parts}
use Rattle.tables.specs.Entries.{rising}
use Rattle.scan.specs.Order.{Segment}
use Rattle.recovery.specs.Small.{Small}
use Rattle.walks.specs.Walks.{since, Tail, longer, tail_from}

abbrev joined : List Segment → Tail → Tail
joined ss t = record { segments = ss ++ t.segments; absent = t.absent; gap = t.gap }

joined_more : (ss : List Segment) (s : Segment) (t : Tail) → joined ss (longer s t) ≡ joined (ss ++ s ∷ []) t
unfolding longer
joined_more ss s t = ap (λ (l : List Segment). record { segments = l; absent = t.absent; gap = t.gap }) (sym (append_assoc ss (s ∷ []) t.segments))

module _ (size start : ℕ) (ss : List Segment) where
  -- the first n segments follow each other, up to the LSN `absent`
  pub record Following (n absent : ℕ) : Type 0 where
    pub left : tail_from size start ss ≡ joined (take n ss) (tail_from size absent (drop n ss))
    pub small : absent ≤ 2 ^ 62

  pub following_none : start ≤ 2 ^ 62 → Following 0 start
  following_none l = record { left = refl; small = l }

  module _ (n absent : ℕ) (f : Following n absent) where
    module _ (d : Segment) (h : n < length ss) where
      pub following_more : (m : ℕ) → m ≡ size → Small size (get_or ss n d) → (get_or ss n d).key ≡ absent → Following (n + 1) (absent + m)
      unfolding tail_from
      following_more m i small k =
          let s = get_or ss n d in
          let t = tail_from size (absent + size) (drop (n + 1) ss) in
          let q : tail_from size absent (s ∷ drop (n + 1) ss) ≡ longer s t = grind (arith, nat_tests) in
          record {
            left = f.left ∙ ap (λ (l : List Segment). joined (take n ss) (tail_from size absent l)) (drop_more ss n d h)
                ∙ ap (joined (take n ss)) q ∙ joined_more (take n ss) s t ∙ ap (λ (l : List Segment). joined l t) (sym (take_more ss n d h))
                ∙ ap (λ k. joined (take (n + 1) ss) (tail_from size (absent + k) (drop (n + 1) ss))) (sym i);
            small = omega (arith, small.lsn);
          }

      pub following-gap : ((get_or ss n d).key ≡ absent → ⊥) → record { segments = take n ss; absent = absent; gap = true } ≡ tail_from size start ss
      unfolding tail_from
      following-gap k =
          let z = ne_eqb (get_or ss n d).key absent k in
          let q : tail_from size absent (get_or ss n d ∷ drop (n + 1) ss) ≡ record { segments = []; absent = absent; gap = true } = grind arith in
          sym (f.left ∙ ap (λ (l : List Segment). joined (take n ss) (tail_from size absent l)) (drop_more ss n d h) ∙ ap (joined (take n ss)) q
          ∙ ap (λ (l : List Segment). record { segments = l; absent = absent; gap = true }) (append-nil (take n ss)))

    pub following_end : length ss ≤ n → record { segments = ss; absent = absent; gap = false } ≡ tail_from size start ss
    unfolding tail_from
    following_end h =
        sym (f.left ∙ ap (λ (l : List Segment). joined (take n ss) (tail_from size absent l)) (drop_all n ss h)
        ∙ ap (λ (l : List Segment). record { segments = l; absent = absent; gap = false }) (append-nil (take n ss) ∙ take_all n ss h))

pub ruleset following = (following_none, following_more, following-gap, following_end)

-- ---- the segments below a start
rising_le : (i j : ℕ) (ss : List Segment) (d : Segment) → rising ss ≡ true → i ≤ j → j < length ss → (get_or ss i d).key ≤ (get_or ss j d).key
rising_le i j [] d r a b = absurd (omega arith)
rising_le zero zero (s ∷ ss) d r a b = omega arith
rising_le zero (suc j) (s ∷ ss) d r a b = let q = rising_parts s ss r in omega (arith, below_all s.key j ss d q.0 q.1 (omega arith))
rising_le (suc i) zero (s ∷ ss) d r a b = absurd (omega arith)
rising_le (suc i) (suc j) (s ∷ ss) d r a b = rising_le i j ss d (rising_parts s ss r).1 (omega arith) (omega arith)

pub below_parts : (start : ℕ) (ss : List Segment) → rising ss ≡ true → IsPartitionedBy (λ s. ltb s.key start) ss
below_parts start ss r i j d a b t = let k = rising_le i j ss d r a b in grind (arith, nat_tests)

pub since-drop : (start i : ℕ) (ss : List Segment) → i ≤ length ss → IsPartitionPoint (λ s. ltb s.key start ≡ true) (λ s. ltb s.key start ≡ false) ss i → since start ss ≡ drop i ss
unfolding since
since-drop start i [] h p = sym (drop_all i [] (omega arith))
since-drop start zero (s ∷ ss) h p = let k : ltb s.key start ≡ false = p.1 0 s (omega arith) (omega arith) in grind arith
since-drop start (suc i) (s ∷ ss) h p =
    let k : ltb s.key start ≡ true = p.0 0 s (omega arith) (omega arith) in
    let m = since-drop start i ss (omega arith) (λ j d a b. p.0 (suc j) d (omega arith) (omega arith), λ j d a b. p.1 (suc j) d (omega arith) (omega arith)) in
    grind arith
