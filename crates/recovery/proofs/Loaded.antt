-- The pages of a snapshot, as a table shows them that holds its states and fragments. Assumes nothing.
use Rattle.std.proofs.Common.{◌≡◌, ℕ, zero, suc, ◌+◌, ◌-◌, ◌<◌, ◌≤◌, true, false, List, [], ◌∷◌, ◌++◌, length, get_or, take, drop, replicate, sym, refl, ap, ◌∙◌, subst, append_assoc, length-append, arith}
use Rattle.std.proofs.lemmas.List.{append-nil, take-append-drop, length-take-le, get_or_past, ext_get_or, drop-replicate, take_at}
use Rattle.std.proofs.lemmas.List.Elements.{filter-append, All-append, All-cons, All-nil, All-weaker}
use Rattle.std.proofs.lemmas.Bool.{and_parts, false≢true}
use Rattle.std.proofs.lemmas.Bool.Decides.{nat_tests}
use Rattle.std.specs.List.{All, filter}
use Rattle.pages.specs.declared.page_state.Fragment.{Fragment}
use Rattle.pages.specs.declared.page_state.PageState.{PageState}
use Rattle.pages.specs.declared.page_state.PageState.TheVariants.{Uninitialized, Free, Present}
use Rattle.pages.specs.declared.snapshot.Snapshot.{Snapshot}
use Rattle.pages.specs.Pages.{Item, Page, uninitialized, free, present, fragments}
use Rattle.pages.specs.Shown.{items, nested, all_of, none, tidy}
use Rattle.pages.specs.Snapshots.{rises_from, sound_page, sound_pages}
use Rattle.pages.proofs.Layouts.{length-nested, tidy_parts, fragments-nested}
use Rattle.recovery.specs.declared.page_table.PageTable.{PageTable}
use Rattle.recovery.specs.Flat.{in_use, flat, of_page, page_of, pages, state_at, Right, Consistent, Kept, Cleared, Given}
use Rattle.recovery.proofs.Flats.{get_or-replicate_same, Below, filter_none, filter_true, of_page-other, length-pages, get_or-pages}

abbrev pub Least : ℕ → Fragment → Type 0
Least i f = i ≤ f.pid

abbrev pub Lower : ℕ → Fragment → Type 0
Lower i f = f.pid < i

module _ (i : ℕ) where
  -- the fragments of page i
  own_least : (fs : List Fragment) → all_of i fs ≡ true → All (Least i) fs
  unfolding all_of
  own_least [] a = All-nil (Least i)
  own_least (f ∷ fs) a = let h : i ≤ f.pid = grind (arith, nat_tests) in All-cons (Least i) f fs h (own_least fs (and_parts _ _ a).1)

  own_lower : (fs : List Fragment) → all_of i fs ≡ true → All (Lower (suc i)) fs
  unfolding all_of
  own_lower [] a = All-nil (Lower (suc i))
  own_lower (f ∷ fs) a = let h : f.pid < suc i = grind (arith, nat_tests) in All-cons (Lower (suc i)) f fs h (own_lower fs (and_parts _ _ a).1)

  others_none : (base : ℕ) (fs : List Fragment) → All (λ f. f.pid ≡ i → ⊥) fs → filter (of_page i base) fs ≡ []
  others_none base fs a = filter_none (of_page i base) fs (All-weaker (λ f. f.pid ≡ i → ⊥) (λ f. of_page i base f ≡ false) (λ f h. of_page-other i base f h) fs a)

-- with LSNs that rise
module _ (top : ℕ) where
  own_below : (low : ℕ) (fs : List Fragment) → rises_from low top (items fs) ≡ true → All (Below top) fs
  unfolding rises_from items
  own_below low [] r = All-nil (Below top)
  own_below low (f ∷ fs) r =
      let h : f.item.0 < top = grind (arith, nat_tests) in
      let t : rises_from (f.item.0 + 1) top (items fs) ≡ true = grind (arith, nat_tests) in All-cons (Below top) f fs h (own_below (f.item.0 + 1) fs t)

  own_all : (i base low : ℕ) (fs : List Fragment) → base < low → all_of i fs ≡ true → rises_from low top (items fs) ≡ true → filter (of_page i base) fs ≡ fs
  unfolding all_of rises_from items of_page
  own_all i base low [] h a r = refl
  own_all i base low (f ∷ fs) h a r =
      let o : of_page i base f ≡ true = grind (arith, nat_tests) in
      let l : low ≤ f.item.0 = grind (arith, nat_tests) in
      let t : rises_from (f.item.0 + 1) top (items fs) ≡ true = grind (arith, nat_tests) in
      filter_true (of_page i base) f fs o ∙ ap (λ gs. f ∷ gs) (own_all i base (f.item.0 + 1) fs (omega arith) (and_parts _ _ a).1 t)

-- what is sound of a present page: its base, and its fragments
present_parts : (top : ℕ) (base : Item) (xs : List Item) (ps : List Page) → sound_pages top (present base xs ∷ ps) ≡ true
    → (base.0 < top) × (rises_from (base.0 + 1) top xs ≡ true) × (sound_pages top ps ≡ true)
unfolding sound_pages sound_page rises_from
present_parts top base xs ps e = (grind (arith, nat_tests), grind (arith, nat_tests), grind (arith, nat_tests))

later_sound : (top : ℕ) (p : Page) (ps : List Page) → sound_pages top (p ∷ ps) ≡ true → sound_pages top ps ≡ true
unfolding sound_pages
later_sound top p ps e = (and_parts _ _ e).1

none_is : (P : Fragment → Type 0) (fs : List Fragment) → none fs ≡ true → All P fs
unfolding none
none_is P [] e = All-nil P
none_is P (f ∷ fs) e = absurd (false≢true e)

joins : (P : Fragment → Type 0) (n : ℕ) (fs : List Fragment) → All P (take n fs) → All P (drop n fs) → All P fs
joins P n fs a b = subst (All P) (take-append-drop n fs) (All-append P (take n fs) (drop n fs) a b)

pub given_least : (i : ℕ) (ss : List PageState) (fs : List Fragment) → tidy i ss fs ≡ true → All (Least i) fs
unfolding tidy
given_least i [] fs e = none_is (Least i) fs e
given_least i (Uninitialized ∷ ss) fs e = All-weaker (Least (suc i)) (Least i) (λ f h. omega arith) fs (given_least (suc i) ss fs e)
given_least i (Free lsn ptr ∷ ss) fs e = All-weaker (Least (suc i)) (Least i) (λ f h. omega arith) fs (given_least (suc i) ss fs e)
given_least i (Present base n ∷ ss) fs e =
    let p = tidy_parts i base n ss fs e in
    joins (Least i) n fs (own_least i (take n fs) p.1) (All-weaker (Least (suc i)) (Least i) (λ f h. omega arith) (drop n fs) (given_least (suc i) ss (drop n fs) p.2))

pub given_below : (top i : ℕ) (ss : List PageState) (fs : List Fragment) → tidy i ss fs ≡ true → sound_pages top (nested ss fs) ≡ true → All (Below top) fs
unfolding tidy nested
given_below top i [] fs e s = none_is (Below top) fs e
given_below top i (Uninitialized ∷ ss) fs e s = given_below top (suc i) ss fs e (later_sound top uninitialized (nested ss fs) s)
given_below top i (Free lsn ptr ∷ ss) fs e s = given_below top (suc i) ss fs e (later_sound top (free lsn ptr) (nested ss fs) s)
given_below top i (Present base n ∷ ss) fs e s =
    let p = tidy_parts i base n ss fs e in
    let q = present_parts top base (items (take n fs)) (nested ss (drop n fs)) s in
    joins (Below top) n fs (own_below top (base.0 + 1) (take n fs) q.1) (given_below top (suc i) ss (drop n fs) p.2 q.2)

-- the fragments of page i, where those of pages before it stand in front
own_filter : (top i : ℕ) (base : Item) (n : ℕ) (ss : List PageState) (gs fs : List Fragment) → All (Lower i) gs → tidy i (Present base n ∷ ss) fs ≡ true
    → rises_from (base.0 + 1) top (items (take n fs)) ≡ true → filter (of_page i base.0) (gs ++ fs) ≡ take n fs
own_filter top i base n ss gs fs l e r =
    let p = tidy_parts i base n ss fs e in
    let t = of_page i base.0 in
    let own = own_all top i base.0 (base.0 + 1) (take n fs) (omega arith) p.1 r in
    let front = others_none i base.0 gs (All-weaker (Lower i) (λ f. f.pid ≡ i → ⊥) (λ f h q. omega arith) gs l) in
    let behind = others_none i base.0 (drop n fs) (All-weaker (Least (suc i)) (λ f. f.pid ≡ i → ⊥) (λ f h q. omega arith) (drop n fs) (given_least (suc i) ss (drop n fs) p.2)) in
    filter-append t gs fs ∙ ap (λ xs. xs ++ filter t fs) front ∙ ap (filter t) (sym (take-append-drop n fs)) ∙ filter-append t (take n fs) (drop n fs)
    ∙ ap (λ xs. filter t (take n fs) ++ xs) behind ∙ append-nil (filter t (take n fs)) ∙ own

whole : (n : ℕ) (gs fs : List Fragment) → (gs ++ take n fs) ++ drop n fs ≡ gs ++ fs
whole n gs fs = append_assoc gs (take n fs) (drop n fs) ∙ ap (λ xs. gs ++ xs) (take-append-drop n fs)

lower_more : (i : ℕ) (gs : List Fragment) → All (Lower i) gs → All (Lower (suc i)) gs
lower_more i gs a = All-weaker (Lower i) (Lower (suc i)) (λ f h. omega arith) gs a

lower_own : (i n : ℕ) (gs fs : List Fragment) → All (Lower i) gs → all_of i (take n fs) ≡ true → All (Lower (suc i)) (gs ++ take n fs)
lower_own i n gs fs a o = All-append (Lower (suc i)) gs (take n fs) (lower_more i gs a) (own_lower i (take n fs) o)

module _ (top : ℕ) where
  given_page : (i : ℕ) (ss : List PageState) (gs fs : List Fragment) → All (Lower i) gs → tidy i ss fs ≡ true → sound_pages top (nested ss fs) ≡ true
      → (j : ℕ) → page_of (gs ++ fs) (i + j) (state_at ss j) ≡ get_or (nested ss fs) j uninitialized
  unfolding page_of nested tidy
  given_page i [] gs fs a e s j = refl
  given_page i (Uninitialized ∷ ss) gs fs a e s zero = refl
  given_page i (Uninitialized ∷ ss) gs fs a e s (suc j) =
      let z : i + suc j ≡ suc i + j = omega arith in
      ap (λ k. page_of (gs ++ fs) k (state_at ss j)) z ∙ given_page (suc i) ss gs fs (lower_more i gs a) e (later_sound top uninitialized (nested ss fs) s) j
  given_page i (Free lsn ptr ∷ ss) gs fs a e s zero = refl
  given_page i (Free lsn ptr ∷ ss) gs fs a e s (suc j) =
      let z : i + suc j ≡ suc i + j = omega arith in
      ap (λ k. page_of (gs ++ fs) k (state_at ss j)) z ∙ given_page (suc i) ss gs fs (lower_more i gs a) e (later_sound top (free lsn ptr) (nested ss fs) s) j
  given_page i (Present base n ∷ ss) gs fs a e s zero =
      let z : i + 0 ≡ i = omega arith in
      let q = present_parts top base (items (take n fs)) (nested ss (drop n fs)) s in
      ap (λ k. present base (items (filter (of_page k base.0) (gs ++ fs)))) z ∙ ap (λ (xs : List Fragment). present base (items xs)) (own_filter top i base n ss gs fs a e q.1)
  given_page i (Present base n ∷ ss) gs fs a e s (suc j) =
      let z : i + suc j ≡ suc i + j = omega arith in
      let p = tidy_parts i base n ss fs e in
      let q = present_parts top base (items (take n fs)) (nested ss (drop n fs)) s in
      ap (λ k. page_of (gs ++ fs) k (state_at ss j)) z ∙ ap (λ xs. page_of xs (suc i + j) (state_at ss j)) (sym (whole n gs fs))
      ∙ given_page (suc i) ss (gs ++ take n fs) (drop n fs) (lower_own i n gs fs a p.1) p.2 q.2 j

  given_right : (i : ℕ) (ss : List PageState) (gs fs : List Fragment) → All (Lower i) gs → tidy i ss fs ≡ true → sound_pages top (nested ss fs) ≡ true
      → (j : ℕ) → Right top (gs ++ fs) (i + j) (state_at ss j)
  unfolding nested tidy
  given_right i [] gs fs a e s j = tt
  given_right i (Uninitialized ∷ ss) gs fs a e s zero = tt
  given_right i (Uninitialized ∷ ss) gs fs a e s (suc j) =
      let z : suc i + j ≡ i + suc j = omega arith in
      subst (λ k. Right top (gs ++ fs) k (state_at ss j)) z (given_right (suc i) ss gs fs (lower_more i gs a) e (later_sound top uninitialized (nested ss fs) s) j)
  given_right i (Free lsn ptr ∷ ss) gs fs a e s zero = tt
  given_right i (Free lsn ptr ∷ ss) gs fs a e s (suc j) =
      let z : suc i + j ≡ i + suc j = omega arith in
      subst (λ k. Right top (gs ++ fs) k (state_at ss j)) z (given_right (suc i) ss gs fs (lower_more i gs a) e (later_sound top (free lsn ptr) (nested ss fs) s) j)
  given_right i (Present base n ∷ ss) gs fs a e s zero =
      let z : i ≡ i + 0 = omega arith in
      let p = tidy_parts i base n ss fs e in
      let q = present_parts top base (items (take n fs)) (nested ss (drop n fs)) s in
      (q.0, sym (length-take-le n fs p.0) ∙ ap length (sym (own_filter top i base n ss gs fs a e q.1)) ∙ ap (λ k. length (filter (of_page k base.0) (gs ++ fs))) z)
  given_right i (Present base n ∷ ss) gs fs a e s (suc j) =
      let z : suc i + j ≡ i + suc j = omega arith in
      let p = tidy_parts i base n ss fs e in
      let q = present_parts top base (items (take n fs)) (nested ss (drop n fs)) s in
      subst (λ k. Right top (gs ++ fs) k (state_at ss j)) z
      (subst (λ xs. Right top xs (suc i + j) (state_at ss j)) (whole n gs fs) (given_right (suc i) ss (gs ++ take n fs) (drop n fs) (lower_own i n gs fs a p.1) p.2 q.2 j))

-- ---- with uninitialized states behind those of the snapshot
state_at-padded : (ss : List PageState) (m j : ℕ) → state_at (ss ++ replicate m Uninitialized) j ≡ state_at ss j
state_at-padded [] m j = get_or-replicate_same Uninitialized m j
state_at-padded (s ∷ ss) m zero = refl
state_at-padded (s ∷ ss) m (suc j) = state_at-padded ss m j

module _ (top : ℕ) (ss : List PageState) (fs : List Fragment) (m : ℕ) (e : tidy 0 ss fs ≡ true) (s : sound_pages top (nested ss fs) ≡ true) where
  abbrev padded : List PageState
  padded = ss ++ replicate m Uninitialized

  padded_blank : (j : ℕ) → length ss ≤ j → state_at padded j ≡ Uninitialized
  padded_blank j h = state_at-padded ss m j ∙ get_or_past ss j Uninitialized h

  pub loaded_pages : pages fs padded (length ss) ≡ nested ss fs
  loaded_pages =
      ext_get_or uninitialized (pages fs padded (length ss)) (nested ss fs) (length-pages fs padded (length ss) ∙ sym (length-nested ss fs))
      (λ j h.
      let z : j ≡ 0 + j = omega arith in
      get_or-pages fs padded (length ss) j padded_blank ∙ ap (page_of fs j) (state_at-padded ss m j) ∙ ap (λ k. page_of fs k (state_at ss j)) z
      ∙ given_page top 0 ss [] fs (All-nil (Lower 0)) e s j)

  pub loaded_consistent : Consistent top fs padded (length ss) (length fs)
  loaded_consistent = record {
    blank = padded_blank;
    below = given_below top 0 ss fs e s;
    right = λ j.
        let z : 0 + j ≡ j = omega arith in
        subst (Right top fs j) (sym (state_at-padded ss m j)) (subst (λ k. Right top fs k (state_at ss j)) z (given_right top 0 ss [] fs (All-nil (Lower 0)) e s j));
    counted = sym (fragments-nested 0 ss fs e) ∙ ap fragments (sym loaded_pages);
  }

-- ---- the tables after `load`
module _ (t : PageTable) (g : Snapshot) (c : Cleared t) (h : length g.pages.now ≤ length t.states.now) (l : length g.fragments.now ≤ length t.fragments.now)
    (ss : List PageState) (fs : List Fragment) (e : ss ≡ g.pages.now ++ drop (length g.pages.now) t.states.now)
    (q : fs ≡ g.fragments.now ++ drop (length g.fragments.now) t.fragments.now) (top : ℕ) (d : Given top g) where
  abbrev room : ℕ
  room = length t.states.now - length g.pages.now

  abbrev loaded : PageTable
  loaded = record {
    states = record t.states { now = ss };
    fragments = record t.fragments { now = fs };
    count = length g.pages.now;
    used = length g.fragments.now;
    live = length g.fragments.now;
  }

  loaded_states : ss ≡ g.pages.now ++ replicate room Uninitialized
  loaded_states = e ∙ ap (λ xs. g.pages.now ++ xs) (ap (drop (length g.pages.now)) c.states ∙ drop-replicate (length g.pages.now) (length t.states.now) Uninitialized)

  loaded_in_use : in_use loaded ≡ g.fragments.now
  loaded_in_use = ap (take (length g.fragments.now)) q ∙ take_at g.fragments.now (drop (length g.fragments.now) t.fragments.now) (length g.fragments.now) refl

  pub flat-loaded : flat loaded ≡ nested g.pages.now g.fragments.now
  flat-loaded = rw (loaded_in_use, loaded_states) (loaded_pages top g.pages.now g.fragments.now room d.tidy d.sound)

  pub kept-loaded : Kept top loaded
  kept-loaded = record {
    count = omega (arith, ap length loaded_states, length-append g.pages.now (replicate room Uninitialized));
    used = omega (arith, ap length q, length-append g.fragments.now (drop (length g.fragments.now) t.fragments.now));
    live = omega (arith, ap length q, length-append g.fragments.now (drop (length g.fragments.now) t.fragments.now));
    consistent = rw (loaded_in_use, loaded_states) (loaded_consistent top g.pages.now g.fragments.now room d.tidy d.sound);
    sound = subst (λ ps. sound_pages top ps ≡ true) (sym flat-loaded) d.sound;
  }
