-- The first walk, over the tail that was found. Assumes nothing.
use Rattle.std.proofs.Common.{◌≡◌, ℕ, zero, suc, ◌+◌, Bool, true, false, ltb, eqb, List, [], ◌∷◌, None, Ok, Err, Option, sym, refl, ap, ◌∙◌, ap₂, subst, arith}
use Rattle.std.specs.List.{All}
use Rattle.blobs.specs.declared.note.Note.{Note}
use Rattle.refusals.specs.declared.refusal.Refusal.{Refusal}
use Rattle.scan.specs.Order.{Segment, unless}
use Rattle.scan.proofs.Visits.{unless_ok, unless_err}
use Rattle.walks.specs.Walk.{Walked, walk}
use Rattle.recovery.specs.State.{rest}
use Rattle.walks.specs.Walks.{since, Tail, longer, tail_from, first_walk}
use Rattle.recovery.specs.Small.{Small}
use Rattle.recovery.specs.Tails.{TailIs}
use Rattle.recovery.specs.declared.tail.Tail.{Tail as Found}

all-cons : {X : Type 0} (P : X → Type 0) (x : X) (xs : List X) → P x → All P xs → All P (x ∷ xs)
all-cons P x xs p a zero d h = p
all-cons P x xs p a (suc k) d h = a k d (omega arith)

all-rest : {X : Type 0} (P : X → Type 0) (x : X) (xs : List X) → All P (x ∷ xs) → All P xs
all-rest P x xs a k d h = a (suc k) d (omega arith)

pub since-small : (size start : ℕ) (ss : List Segment) → All (Small size) ss → All (Small size) (since start ss)
unfolding since
since-small size start [] a = a
since-small size start (s ∷ ss) a = go (ltb s.key start) refl (since-small size start ss (all-rest (Small size) s ss a))
  where
    go : (b : Bool) → ltb s.key start ≡ b → All (Small size) (since start ss) → All (Small size) (since start (s ∷ ss))
    go true e ih = let q : since start (s ∷ ss) ≡ since start ss = grind arith in subst (All (Small size)) (sym q) ih
    go false e ih = let q : since start (s ∷ ss) ≡ s ∷ ss = grind arith in subst (All (Small size)) (sym q) a

pub tail-small : (size n : ℕ) (ss : List Segment) → All (Small size) ss → All (Small size) (tail_from size n ss).segments
unfolding tail_from
tail-small size n [] a = a
tail-small size n (s ∷ ss) a = go (eqb s.key n) refl (tail-small size (n + size) ss (all-rest (Small size) s ss a))
  where
    go : (b : Bool) → eqb s.key n ≡ b → All (Small size) (tail_from size (n + size) ss).segments → All (Small size) (tail_from size n (s ∷ ss)).segments
    go true e rest =
        let q : tail_from size n (s ∷ ss) ≡ longer s (tail_from size (n + size) ss) = grind arith in
        subst (λ t. All (Small size) t.segments) (sym q) (unfold longer in all-cons (Small size) s (tail_from size (n + size) ss).segments (a 0 s (omega arith)) rest)
    go false e rest =
        let q : tail_from size n (s ∷ ss) ≡ record { segments = []; absent = n; gap = true } = grind arith in
        subst (λ t. All (Small size) t.segments) (sym q) (λ k d h. absurd (omega arith))

-- the walk over what was found is the first walk
module _ (notes : ℕ → Option Note) (size : ℕ) (dev : List ℕ) (found : Found) (t : Tail) (i : TailIs found t) where
  abbrev ahead : Walked
  ahead = rest notes dev size found.limit false None None found.segments.now

  ahead_is : ahead ≡ first_walk notes size dev t
  unfolding first_walk rest
  ahead_is = ap₂ (λ l ss. walk notes size dev l false None ss) i.limit i.segments

  pub walked_fault : (e : Refusal) → Err e ≡ unless ahead.fault (tt {0}) → Err e ≡ unless (first_walk notes size dev t).fault (first_walk notes size dev t).current
  walked_fault e f = sym (ap (λ w. unless w.fault w.current) (sym ahead_is) ∙ unless_err ahead.fault e tt ahead.current f)

  pub walked_tail : (current : Option ℕ) → Ok (tt {0}) ≡ unless ahead.fault (tt {0}) → current ≡ ahead.current → Ok current ≡ unless (first_walk notes size dev t).fault (first_walk notes size dev t).current
  walked_tail current f k = ap Ok k ∙ sym (ap (λ w. unless w.fault w.current) (sym ahead_is) ∙ unless_ok ahead.fault ahead.current f)
