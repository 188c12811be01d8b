-- The writes of a finish: each lies in a block of its own, and the blocks that are not loose are counted. Assumes nothing.
use Rattle.std.proofs.Common.{◌≡◌, ◌≢◌, ℕ, suc, ◌+◌, ◌-◌, ◌*◌, ◌/◌, ◌<◌, ◌≤◌, Bool, true, false, cond, if◌then◌else◌, not, List, [], ◌∷◌, ◌++◌, map, length, get_or, Some, None, Option, IfSome, refl, sym, ap, ap₂, ◌∙◌, subst, arith}
use Rattle.std.proofs.lemmas.Bool.Decides.{nat_tests}
use Rattle.std.proofs.ByRecursion.{All-weaker}
use Rattle.std.proofs.lemmas.List.Sums.{sum_by-cons}
use Rattle.std.specs.List.{All, AllPairs, AllByRecursion, count_by}
use Rattle.std.specs.Option.{option_map, option_to_list}
use Rattle.device.proofs.Blocks.{block_of}
use Rattle.device.specs.Meaning.{needed}
use Rattle.device.specs.Writes.{loosened}
use Rattle.scan.proofs.Taken.{of_mult}
use Rattle.scan.specs.Order.{Segment}
use Rattle.walks.specs.Finish.{wholes}
use Rattle.walks.specs.Recover.{places}
use Rattle.walks.specs.Walk.{with_held}
use Rattle.recovery.specs.Finishing.{with_rest, RestOf, Room, Fitting}
use Rattle.recovery.specs.declared.finish.Rest.{Rest}

-- ---- blocks counted
-- no two of the places lie in one block
unfoldable pub Blocks : ℕ → List ℕ → Type 0
Blocks size [] = Unit {0}
Blocks size (p ∷ ps) = AllByRecursion (λ q. q / size ≢ p / size) ps × Blocks size ps

count_same : (f g : ℕ → Bool) (ps : List ℕ) → AllByRecursion (λ p. f p ≡ g p) ps → count_by f ps ≡ count_by g ps
count_same f g [] a = refl
count_same f g (p ∷ ps) a = sum_by-cons (λ x. cond (f x) 1 0) p ps ∙ ap₂ (λ x n. cond x 1 0 + n) a.0 (count_same f g ps a.1) ∙ sym (sum_by-cons (λ x. cond (g x) 1 0) p ps)

not_loosened : (size : ℕ) (loose : ℕ → Bool) (p q : ℕ) → q / size ≢ p / size → not (loosened size loose p 1 (q / size)) ≡ not (loose (q / size))
not_loosened size loose p q h = grind (arith, nat_tests)

one_more : (x : Bool) → ◌≡◌ {A = ℕ} (if x then 0 else 1) (cond (not x) 1 0)
one_more true = refl
one_more false = refl

needed-count : (size : ℕ) (loose : ℕ → Bool) (ps : List ℕ) → Blocks size ps → needed size loose ps ≡ count_by (λ p. not (loose (p / size))) ps
unfolding Blocks needed
needed-count size loose [] b = refl
needed-count size loose (p ∷ ps) b =
    ap₂ (λ x n. x + n) (one_more (loose (p / size)))
    (needed-count size (loosened size loose p 1) ps b.1
    ∙ count_same (λ q. not (loosened size loose p 1 (q / size))) (λ q. not (loose (q / size))) ps (All-weaker (λ q. q / size ≢ p / size) (λ q. not (loosened size loose p 1 (q / size)) ≡ not (loose (q / size))) (not_loosened size loose p) ps b.0))
    ∙ sym (sum_by-cons (λ q. cond (not (loose (q / size))) 1 0) p ps)

-- ---- runs
module _ (size capacity : ℕ) (s : Segment) (r : Room size capacity s) where
  base : s.value / size * size ≡ s.value
  base = of_mult size s.value r.small.aligned

  -- a place in the segment
  inside : (p : ℕ) → s.value ≤ p → p < s.value + size → p / size ≡ s.value / size
  inside p l h = block_of size (s.value / size) p (omega (arith, base)) (omega (arith, base))

  run : (p n : ℕ) → s.value ≤ p → 0 < n → p + n ≡ s.value + size → Fitting capacity size (p, n)
  run p n l o e =
      let i = inside p l (omega arith) in
      let j = inside (p + (n - 1)) (omega arith) (omega arith) in
      let q = r.ends in
      record { some = o; short = omega arith; fits = grind (arith, nat_tests) }

-- ---- blocks apart
apart_blocks : (size capacity : ℕ) (s t : Segment) → Room size capacity s → Room size capacity t → s.value ≢ t.value → t.value / size ≢ s.value / size
apart_blocks size capacity s t r q a e = a (sym (base size capacity s r) ∙ ap (λ b. b * size) (sym e) ∙ base size capacity t q)

-- the others of a segment
module _ (size capacity : ℕ) where
  abbrev values : List Segment → List ℕ
  values ss = map (λ (t : Segment). t.value) ss

  others : (s : Segment) (ts : List Segment) → Room size capacity s → All (Room size capacity) ts → ((k : ℕ) (d : Segment) → k < length ts → s.value ≢ (get_or ts k d).value)
      → AllByRecursion (λ q. q / size ≢ s.value / size) (values ts)
  others s [] q r a = tt
  others s (t ∷ ts) q r a =
      (apart_blocks size capacity s t q (r 0 t (omega arith)) (a 0 t (omega arith)), others s ts q (λ k d h. r (suc k) d (omega arith)) (λ k d h. a (suc k) d (omega arith)))

  blocks_of : (ss : List Segment) → All (Room size capacity) ss → AllPairs (λ (a b : Segment). a.value ≢ b.value) ss → Blocks size (values ss)
  unfolding Blocks
  blocks_of [] r a = tt
  blocks_of (s ∷ ss) r a = (
    others s ss (r 0 s (omega arith)) (λ k d h. r (suc k) d (omega arith)) (λ k d h. a 0 (suc k) d (omega arith) (omega arith)),
    blocks_of ss (λ k d h. r (suc k) d (omega arith)) (λ i j d h l. a (suc i) (suc j) d (omega arith) (omega arith)),
  )

  wholes_fit : (ss : List Segment) → 0 < size → All (Room size capacity) ss → AllByRecursion (Fitting capacity size) (wholes size ss)
  unfolding wholes
  wholes_fit [] p r = tt
  wholes_fit (s ∷ ss) p r = (run size capacity s (r 0 s (omega arith)) s.value size (omega arith) p (omega arith), wholes_fit ss p (λ k d h. r (suc k) d (omega arith)))

  places-wholes : (ss : List Segment) → places (wholes size ss) ≡ values ss
  unfolding wholes places
  places-wholes [] = refl
  places-wholes (s ∷ ss) = ap (λ l. s.value ∷ l) (places-wholes ss)

  -- ---- the rest of the active segment, and the segments left
  module _ (held : Option Segment) (ss : List Segment) (pos : 0 < size) (room : All (Room size capacity) (with_held held ss)) (apart : AllPairs (λ (a b : Segment). a.value ≢ b.value) (with_held held ss)) where
    abbrev first : Option Rest → List ℕ
    first rest = option_to_list (option_map (λ (r : Rest). r.place) rest)

    left_room : All (Room size capacity) ss
    left_room = go held room
      where
        go : (o : Option Segment) → All (Room size capacity) (with_held o ss) → All (Room size capacity) ss
        go None r = r
        go (Some s) r = λ k d h. r (suc k) d (omega arith)

    left_apart : AllPairs (λ (a b : Segment). a.value ≢ b.value) ss
    left_apart = go held apart
      where
        go : (o : Option Segment) → AllPairs (λ (a b : Segment). a.value ≢ b.value) (with_held o ss) → AllPairs (λ (a b : Segment). a.value ≢ b.value) ss
        go None a = a
        go (Some s) a = λ i j d h l. a (suc i) (suc j) d (omega arith) (omega arith)

    held_room : (s : Segment) → held ≡ Some s → Room size capacity s
    held_room s e = (subst (λ o. All (Room size capacity) (with_held o ss)) e room) 0 s (omega arith)

    held_blocks : (s : Segment) → held ≡ Some s → Blocks size (s.value ∷ values ss)
    held_blocks s e =
        blocks_of (s ∷ ss) (subst (λ o. All (Room size capacity) (with_held o ss)) e room) (subst (λ o. AllPairs (λ (a b : Segment). a.value ≢ b.value) (with_held o ss)) e apart)

    places_are : (rest : Option Rest) → places (with_rest rest (wholes size ss)) ≡ first rest ++ values ss
    unfolding places
    places_are None = places-wholes ss
    places_are (Some r) = ap (λ l. r.place ∷ l) (places-wholes ss)

    blocks_are : (rest : Option Rest) → IfSome rest (RestOf size held) → Blocks size (first rest ++ values ss)
    unfolding Blocks
    blocks_are None o = blocks_of ss left_room left_apart
    blocks_are (Some r) o =
        let s = o.segment in
        let b = held_blocks s o.of_held in
        let i : r.place / size ≡ s.value / size = inside size capacity s (held_room s o.of_held) r.place o.from (omega (arith, o.some, o.ends)) in
        (subst (λ x. AllByRecursion (λ q. q / size ≢ x) (values ss)) (sym i) b.0, b.1)

    pub runs_fit : (rest : Option Rest) → IfSome rest (RestOf size held) → AllByRecursion (Fitting capacity size) (with_rest rest (wholes size ss))
    runs_fit None o = wholes_fit ss pos left_room
    runs_fit (Some r) o = (run size capacity o.segment (held_room o.segment o.of_held) r.place r.len o.from o.some o.ends, wholes_fit ss pos left_room)

    pub needed_is : (loose : ℕ → Bool) (rest : Option Rest) → IfSome rest (RestOf size held)
        → needed size loose (places (with_rest rest (wholes size ss))) ≡ count_by (λ p. not (loose (p / size))) (first rest ++ values ss)
    needed_is loose rest o = ap (needed size loose) (places_are rest) ∙ needed-count size loose (first rest ++ values ss) (blocks_are rest o)
