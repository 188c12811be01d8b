-- The snapshot that a recover gives out is well formed. Assumes nothing.
use Rattle.std.proofs.Common.{◌≡◌, ℕ, suc, ◌+◌, ◌*◌, ◌/◌, ◌%◌, ◌^◌, ◌<◌, ◌≤◌, true, List, Some, None, Option, sym, refl, ap, ◌∙◌, subst, div-add-mod', mod-lt, ⊎_elim, arith}
use native.Mathlib.Nat.{mul-mod_left}
use Rattle.std.proofs.lemmas.Bool.{cases_lt}
use Rattle.std.proofs.lemmas.Bool.Decides.{nat_tests}
use Rattle.layout.proofs.Powers.{sized, top_multiple}
use Rattle.layout.specs.Sizes.{is_segment_size}
use Rattle.messages.specs.Raw.{is_entry}
use Rattle.pages.specs.Pages.{Page}
use Rattle.pages.specs.Snapshots.{Snap, sound_pages, placed, well_formed}
use Rattle.scan.proofs.Taken.{gap}
use Rattle.scan.specs.Order.{Segment}
use Rattle.walks.specs.Finish.{wholes, behind, ended, finish}
use Rattle.walks.specs.Recover.{or_zero}
use Rattle.walks.proofs.Ranges.{HeldAt}
use Rattle.walks.proofs.Turns.{entry_in, progress_is}
use Rattle.walks.specs.Walk.{Walked}

module _ (size : ℕ) (z : is_segment_size size ≡ true) (ps : List Page) where
  -- a stable LSN that rounds to a segment, with none active
  formed_between : (n : ℕ) → n ≤ 2 ^ 62 → n % size ≡ 0 → sound_pages n ps ≡ true → well_formed size (record { stable = Some n; active = None; pages = ps }) ≡ true
  unfolding well_formed placed
  formed_between n l m s = grind (arith, nat_tests)

  formed_inside : (n place : ℕ) → n ≤ 2 ^ 62 → place % size ≡ 0 → 20 ≤ n % size → n % size + 33 ≤ size → sound_pages n ps ≡ true
      → well_formed size (record { stable = Some n; active = Some place; pages = ps }) ≡ true
  unfolding well_formed placed
  formed_inside n place l m a b s = grind (arith, nat_tests)

  -- the next segment's LSN
  next_small : (c : ℕ) → c ≤ 2 ^ 62 → 0 < c % size → c / size * size + size ≤ 2 ^ 62
  next_small c l h =
      let e : c / size * size + c % size ≡ c = div-add-mod' c size in
      gap size (c / size * size) (2 ^ 62) (mul-mod_left (c / size) size) (top_multiple size z) (omega arith)

  next_multiple : (c : ℕ) → (c / size * size + size) % size ≡ 0
  next_multiple c = let e : c / size * size + size ≡ suc (c / size) * size = omega arith in ap (λ n. n % size) e ∙ mul-mod_left (suc (c / size)) size

  -- the end at a current LSN c, once it is not below the stable LSN given
  module _ (c low : ℕ) (small : c ≤ 2 ^ 62) (sound : (top : ℕ) → c ≤ top → low ≤ top → sound_pages top ps ≡ true) (zs : List (ℕ × ℕ)) where
    next : 0 < c % size → low ≤ c / size * size + size → well_formed size (behind size c ps) ≡ true
    unfolding behind
    next h l =
        let e : c / size * size + c % size ≡ c = div-add-mod' c size in
        let m : c % size < size = mod-lt c (omega (arith, (sized size z).low)) in
        formed_between (c / size * size + size) (next_small c small h) (next_multiple c) (sound (c / size * size + size) (omega arith) l)

    none_formed : low ≤ or_zero (ended size c ps None zs).snap.stable → well_formed size (ended size c ps None zs).snap ≡ true
    unfolding ended behind or_zero
    none_formed l =
        ⊎_elim
        (λ (h : 0 < c % size).
        let q : (ended size c ps None zs).snap ≡ behind size c ps = grind (arith, nat_tests) in
        subst (λ x. well_formed size x ≡ true) (sym q) (next h (subst (λ x. low ≤ or_zero x.stable) q l)))
        (λ (h : c % size ≤ 0).
        let m : c % size ≡ 0 = omega arith in
        let b = (sized size z).low in
        let q : (ended size c ps None zs).snap ≡ record { stable = Some c; active = None; pages = ps } = grind (arith, nat_tests) in
        subst (λ x. well_formed size x ≡ true) (sym q) (formed_between c small m (sound c (omega arith) (subst (λ x. low ≤ or_zero x.stable) q l))))
        (cases_lt 0 (c % size))

    -- held at a progress p, which is an entry
    held_formed : (s : Segment) → s.key % size ≡ 0 → s.value % size ≡ 0 → (p : ℕ) → is_entry size p ≡ true → c ≡ s.key + p → low ≤ or_zero (ended size c ps (Some s) zs).snap.stable → well_formed size (ended size c ps (Some s) zs).snap ≡ true
    unfolding ended behind or_zero
    held_formed s k v p i e l =
        let at = entry_in size p i in
        let low_p : 20 ≤ p = grind (arith, nat_tests) in
        let m : c % size ≡ p = ap (λ n. n % size) e ∙ progress_is size s.key p k (omega arith) in
        ⊎_elim
        (λ (h : p + 32 < size).
        let q : (ended size c ps (Some s) zs).snap ≡ record { stable = Some c; active = Some s.value; pages = ps } = grind (arith, nat_tests) in
        subst (λ x. well_formed size x ≡ true) (sym q) (formed_inside c s.value small v (omega arith) (omega arith) (sound c (omega arith) (subst (λ x. low ≤ or_zero x.stable) q l))))
        (λ (h : size ≤ p + 32).
        let q : (ended size c ps (Some s) zs).snap ≡ behind size c ps = grind (arith, nat_tests) in
        subst (λ x. well_formed size x ≡ true) (sym q) (next (omega arith) (subst (λ x. low ≤ or_zero x.stable) q l)))
        (cases_lt (p + 32) size)

-- the snapshot of a walk's end
pub finished_formed : (size : ℕ) → is_segment_size size ≡ true → (given : Snap) (ps : List Page) (w : Walked) → well_formed size given ≡ true
    → ((c : ℕ) → w.current ≡ Some c → (c ≤ 2 ^ 62) × ((top : ℕ) → c ≤ top → or_zero given.stable ≤ top → sound_pages top ps ≡ true))
    → ((s : Segment) → w.held ≡ Some s → (s.key % size ≡ 0) × (s.value % size ≡ 0) × HeldAt size (Some s) w.current)
    → or_zero given.stable ≤ or_zero (finish size given ps w).snap.stable → well_formed size (finish size given ps w).snap ≡ true
unfolding finish
finished_formed size z given ps w formed at held l = go w.current w.held refl refl
  where
    go : (o : Option ℕ) (h : Option Segment) → w.current ≡ o → w.held ≡ h → well_formed size (finish size given ps w).snap ≡ true
    go None h e i = let q : (finish size given ps w).snap ≡ given = grind arith in subst (λ x. well_formed size x ≡ true) (sym q) formed
    go (Some c) None e i =
        let a = at c e in
        let q : (finish size given ps w).snap ≡ (ended size c ps None (wholes size w.left)).snap = grind arith in
        subst (λ x. well_formed size x ≡ true) (sym q) (none_formed size z ps c (or_zero given.stable) a.0 a.1 (wholes size w.left) (subst (λ x. or_zero given.stable ≤ or_zero x.stable) q l))
    go (Some c) (Some s) e i =
        let a = at c e in
        let b = held s i in
        let p : HeldAt size (Some s) (Some c) = subst (HeldAt size (Some s)) e b.2 in
        let q : (finish size given ps w).snap ≡ (ended size c ps (Some s) (wholes size w.left)).snap = grind arith in
        subst (λ x. well_formed size x ≡ true) (sym q)
        (held_formed size z ps c (or_zero given.stable) a.0 a.1 (wholes size w.left) s b.0 b.1 p.0 p.1 p.2 (subst (λ x. or_zero given.stable ≤ or_zero x.stable) q l))
