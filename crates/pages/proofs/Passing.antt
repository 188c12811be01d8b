-- Steps of the pass over the two tables of a snapshot. Assumes nothing.
use Rattle.std.proofs.Common.{◌≡◌, ℕ, suc, ◌+◌, ◌^◌, ◌<◌, ◌≤◌, Bool, true, false, not, ◌&&◌, eqb, leb, ◌⊎◌, List, [], ◌∷◌, length, get_or, drop, is_some, Some, None, Option, sym, refl, ap, ◌∙◌, add-one, arith}
use Rattle.std.proofs.lemmas.List.{drop_more, drop_all}
use Rattle.std.proofs.lemmas.Bool.Decides.{nat_tests}
use Rattle.pages.specs.declared.page_state.Fragment.{Fragment}
use Rattle.pages.specs.declared.page_state.PageState.{PageState}
use Rattle.pages.specs.declared.page_state.PageState.TheVariants.{Uninitialized, Free, Present}
use Rattle.pages.specs.declared.snapshot.Snapshot.{Snapshot}
use Rattle.pages.specs.Passes.{own, behind, passes}
use Rattle.pages.specs.Shown.{items, nested, all_of, none, tidy}
use Rattle.pages.specs.Snapshots.{snap_of, rises_from, sound_page, sound_pages, no_pages, placed, bare, well_formed, formed}

-- the fragments of a page from the k-th on
module _ (i low top : ℕ) (fs : List Fragment) (k : ℕ) where
  pub own_all : length fs ≤ k → own i low top (drop k fs) ≡ true
  unfolding own all_of rises_from items
  own_all h = ap (own i low top) (drop_all k fs h)

  module _ (d : Fragment) (h : k < length fs) where
    pub own_more : (get_or fs k d).pid ≡ i → low ≤ (get_or fs k d).item.0 → (get_or fs k d).item.0 < top
        → own i low top (drop k fs) ≡ own i ((get_or fs k d).item.0 + 1) top (drop (k + 1) fs)
    unfolding own all_of rises_from items
    own_more p l t = ap (own i low top) (drop_more fs k d h) ∙ grind (arith, nat_tests)

    pub own-not : ((get_or fs k d).pid ≡ i → ⊥) ⊎ (((get_or fs k d).item.0 < low) ⊎ (top ≤ (get_or fs k d).item.0)) → own i low top (drop k fs) ≡ false
    unfolding own all_of rises_from items
    own-not e = ap (own i low top) (drop_more fs k d h) ∙ grind (arith, nat_tests)

-- one page
page_some : (i top : ℕ) (s : PageState) (ss : List PageState) (fs rest : List Fragment) → Some rest ≡ behind i top s fs
    → passes i top (s ∷ ss) fs ≡ passes (suc i) top ss rest
unfolding passes tidy nested sound_pages sound_page rises_from own
page_some i top Uninitialized ss fs rest e = let z : rest ≡ fs = cc in rw z
page_some i top (Free lsn ptr) ss fs rest e = let z : rest ≡ fs = grind (arith, nat_tests) in rw z (grind (arith, nat_tests))
page_some i top (Present base m) ss fs rest e = let z : rest ≡ drop m fs = grind (arith, nat_tests) in rw z (grind (arith, nat_tests))

page_none : (i top : ℕ) (s : PageState) (ss : List PageState) (fs : List Fragment) → None ≡ behind i top s fs → passes i top (s ∷ ss) fs ≡ false
unfolding passes tidy nested sound_pages sound_page rises_from own
page_none i top Uninitialized ss fs e = grind arith
page_none i top (Free lsn ptr) ss fs e = grind (arith, nat_tests)
page_none i top (Present base n) ss fs e = grind (arith, nat_tests)

none_empty : (fs : List Fragment) → none fs ≡ eqb (length fs) 0
unfolding none
none_empty [] = refl
none_empty (f ∷ fs) = grind (arith, nat_tests)

-- the pages from the i-th on, with the fragments that are left
module _ (top : ℕ) (ss : List PageState) (rest : List Fragment) {b : Bool} (i : ℕ) (inv : passes i top (drop i ss) rest ≡ b) where
  pub passes_all : length ss ≤ i → eqb (length rest) 0 ≡ b
  unfolding passes tidy nested sound_pages
  passes_all h =
      let e = ap (λ xs. passes i top xs rest) (drop_all i ss h) in
      let z = none_empty rest in grind (arith, nat_tests)

  module _ (d : PageState) (h : i < length ss) where
    pub passes_more : (others : List Fragment) → Some others ≡ behind i top (get_or ss i d) rest → passes (i + 1) top (drop (i + 1) ss) others ≡ b
    passes_more others e =
        ap (λ k. passes k top (drop (i + 1) ss) others) (add-one i) ∙ sym (page_some i top (get_or ss i d) (drop (i + 1) ss) rest others e)
        ∙ sym (ap (λ xs. passes i top xs rest) (drop_more ss i d h)) ∙ inv

    pub passes-not : None ≡ behind i top (get_or ss i d) rest → false ≡ b
    passes-not e =
        sym (page_none i top (get_or ss i d) (drop (i + 1) ss) rest e) ∙ sym (ap (λ xs. passes i top xs rest) (drop_more ss i d h)) ∙ inv

-- well-formedness, by what is tested
pub formed_some : (size n : ℕ) (s : Snapshot) → s.stable_lsn ≡ Some n
    → formed size s ≡ (leb n (2 ^ 62) && (placed size n s.active_segment && passes 0 n s.pages.now s.fragments.now))
unfolding formed well_formed snap_of passes
formed_some size n s e = grind arith

bare_empty : (active : Option ℕ) (ss : List PageState) (fs : List Fragment)
    → (tidy 0 ss fs && bare active (nested ss fs)) ≡ (not (is_some active) && (eqb (length ss) 0 && eqb (length fs) 0))
unfolding tidy bare nested no_pages
bare_empty active [] fs = let z = none_empty fs in grind (arith, nat_tests)
bare_empty active (Uninitialized ∷ ss) fs = grind (arith, nat_tests)
bare_empty active (Free lsn ptr ∷ ss) fs = grind (arith, nat_tests)
bare_empty active (Present base n ∷ ss) fs = grind (arith, nat_tests)

pub formed_none : (size : ℕ) (s : Snapshot) → s.stable_lsn ≡ None
    → formed size s ≡ (not (is_some s.active_segment) && (eqb (length s.pages.now) 0 && eqb (length s.fragments.now) 0))
unfolding formed well_formed snap_of
formed_none size s e = let b = bare_empty s.active_segment s.pages.now s.fragments.now in grind arith

pub ruleset own_steps = (own_all, own_more, own-not)

pub ruleset passes_steps = (passes_all, passes_more, passes-not)
