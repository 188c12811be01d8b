-- The tables in order: the fragments of the pages, page by page. Assumes nothing.
use Rattle.std.proofs.Common.{◌≡◌, ℕ, zero, suc, ◌+◌, ◌-◌, ◌<◌, ◌≤◌, Bool, true, false, not, List, [], ◌∷◌, ◌++◌, length, get_or, take, drop, replicate, map, sym, refl, ap, ◌∙◌, ap₂, subst, add-one, inl, inr, arith, length-append}
use Rattle.std.proofs.lemmas.Bool.{cases_lt, and_parts, false≢true}
use Rattle.std.proofs.lemmas.Bool.Decides.{nat_tests}
use Rattle.std.proofs.lemmas.List.{ext_get_or, get_or-take, get_or-drop, get_or-replicate, take_at, take-append-drop, length-take-le, length-drop, length-replicate}
use Rattle.std.proofs.lemmas.List.Elements.{All-head, All-tail, All-weaker, All-filter, filter_passes}
use Rattle.std.proofs.lemmas.List.Sorted.{All-permutation}
use Rattle.std.specs.List.{All, filter, range_with_len}
use Rattle.std.specs.Ordering.{is_lt}
use Rattle.pages.specs.declared.page_state.Fragment.{Fragment}
use Rattle.pages.specs.declared.page_state.PageState.{PageState}
use Rattle.pages.specs.declared.page_state.PageState.TheVariants.{Uninitialized, Free, Present}
use Rattle.pages.specs.Pages.{Item, Page, uninitialized, present, fragments}
use Rattle.pages.specs.Shown.{state_of, states_of, tagged, laid_out, items, nested, tidy}
use Rattle.pages.specs.Snapshots.{rises_from, sound_page, sound_pages}
use Rattle.pages.proofs.Layouts.{length_states, length-laid_out, nested-laid_out_all, tidy-laid_out}
use Rattle.recovery.specs.declared.page_table.PageTable.{PageTable}
use Rattle.recovery.specs.Flat.{of_page, by_page_and_lsn, page_of, state_at, pages, in_use, flat, newer, alive, blank, Right, Consistent, Kept, InOrder, Settled, Compacted}
use Rattle.recovery.proofs.Flats.{Blank, filter_none, filter_true, filter_false, of_page-own, length-pages, get_or-pages, pages_same, length-items}
use Rattle.recovery.proofs.Compacts.{filter_filter, alive_within, pages_compacted}
use Rattle.recovery.proofs.Applies.{same_states, used-compacted}
use Rattle.recovery.proofs.Ascents.{of_page-pid, Later, Ascending, ascending, later_test, ascending_filter, level_filter, rise, same, alike_filter, into_filter}
use Rattle.recovery.proofs.Loaded.{Least, Lower}

-- ---- states
state-page_of : (top : ℕ) (fs : List Fragment) (i : ℕ) (s : PageState) → Right top fs i s → state_of (page_of fs i s) ≡ s
unfolding state_of page_of
state-page_of top fs i Uninitialized r = refl
state-page_of top fs i (Free lsn ptr) r = refl
state-page_of top fs i (Present base n) r = ap (Present base) (length-items (filter (of_page i base.0) fs) ∙ sym r.1)

state_at-states : (ps : List Page) (i : ℕ) → state_at (states_of ps) i ≡ state_of (get_or ps i uninitialized)
unfolding states_of state_of
state_at-states [] i = refl
state_at-states (p ∷ ps) zero = refl
state_at-states (p ∷ ps) (suc i) = state_at-states ps i

module _ (top : ℕ) (fs : List Fragment) (ss : List PageState) (n live : ℕ) (c : Consistent top fs ss n live) (h : n ≤ length ss) where
  states_front : states_of (pages fs ss n) ≡ take n ss
  states_front =
      ext_get_or Uninitialized (states_of (pages fs ss n)) (take n ss) (length_states (pages fs ss n) ∙ length-pages fs ss n ∙ sym (length-take-le n ss h))
      (λ i l.
      let z : i < n = omega (arith, length_states (pages fs ss n), length-pages fs ss n) in
      state_at-states (pages fs ss n) i ∙ ap state_of (get_or-pages fs ss n i c.blank) ∙ state-page_of top fs i (state_at ss i) (c.right i)
      ∙ sym (get_or-take n ss i Uninitialized z))

  states_behind : drop n ss ≡ replicate (length ss - n) Uninitialized
  states_behind =
      ext_get_or Uninitialized (drop n ss) (replicate (length ss - n) Uninitialized) (length-drop n ss ∙ sym (length-replicate (length ss - n) Uninitialized))
      (λ i l.
      let z : i < length ss - n = omega (arith, length-drop n ss) in
      get_or-drop n ss i Uninitialized ∙ c.blank (n + i) (omega arith) ∙ sym (get_or-replicate (length ss - n) i Uninitialized Uninitialized z))

  pub states-settled : ss ≡ states_of (pages fs ss n) ++ replicate (length ss - n) Uninitialized
  states-settled = sym (take-append-drop n ss) ∙ ap₂ (λ xs ys. xs ++ ys) (sym states_front) states_behind

-- ---- fragments that are alive, in order
abbrev not_of_page : ℕ → ℕ → Fragment → Bool
not_of_page a low f = not (of_page a low f)

module _ (ss : List PageState) where
  abbrev Live : Fragment → Type 0
  Live f = alive ss f ≡ true

  alive_present : (f : Fragment) (a k : ℕ) (base : Item) → state_at ss a ≡ Present base k → f.pid ≡ a → Live f → of_page a base.0 f ≡ true
  unfolding alive newer
  alive_present f a k base e q l =
      let t : newer (Present base k) f.item.0 ≡ true = ap (λ s. newer s f.item.0) (sym (ap (state_at ss) q ∙ e)) ∙ l in
      let h : base.0 < f.item.0 = grind (arith, nat_tests) in of_page-own a base.0 f q h

  alive_uninitialized : (f : Fragment) (a : ℕ) → state_at ss a ≡ Uninitialized → f.pid ≡ a → Live f → ⊥
  unfolding alive newer
  alive_uninitialized f a e q l = false≢true (ap (λ s. newer s f.item.0) (sym (ap (state_at ss) q ∙ e)) ∙ l)

  alive_free : (f : Fragment) (a lsn : ℕ) (ptr : _) → state_at ss a ≡ Free lsn ptr → f.pid ≡ a → Live f → ⊥
  unfolding alive newer
  alive_free f a lsn ptr e q l = false≢true (ap (λ s. newer s f.item.0) (sym (ap (state_at ss) q ∙ e)) ∙ l)

  -- past the page a, where no fragment is of it
  past : (a : ℕ) (fs : List Fragment) → ((f : Fragment) → f.pid ≡ a → Live f → ⊥) → All Live fs → All (Least a) fs → All (Least (a + 1)) fs
  past a fs h l m k d i = elim (cases_lt a (get_or fs k d).pid) [
    | inl q ↦ omega arith
    | inr q ↦ absurd (h (get_or fs k d) (omega (arith, m k d i)) (l k d i))
  ]

  module _ (a k : ℕ) (base : Item) (e : state_at ss a ≡ Present base k) where
    abbrev own : Fragment → Bool
    own = of_page a base.0

    abbrev other : Fragment → Bool
    other = not_of_page a base.0

    own_not : (f : Fragment) → a < f.pid → own f ≡ false
    unfolding of_page
    own_not f h = grind (arith, nat_tests)

    other_above : (f : Fragment) → a ≤ f.pid → Live f → own f ≡ false → a < f.pid
    other_above f m l o = elim (cases_lt a f.pid) [ inl q ↦ q | inr q ↦ absurd (false≢true (sym o ∙ alive_present f a k base e (omega arith) l)) ]

    others_all : (fs : List Fragment) → All (λ f. own f ≡ false) fs → filter other fs ≡ fs
    others_all [] l = refl
    others_all (f ∷ fs) l =
        filter_true other f fs (ap not (All-head (λ g. own g ≡ false) f fs l)) ∙ ap (λ xs. f ∷ xs) (others_all fs (All-tail (λ g. own g ≡ false) f fs l))

    -- the page's own stand at the front
    split : (fs : List Fragment) → Ascending fs → All Live fs → All (Least a) fs → fs ≡ filter own fs ++ filter other fs
    split [] s l m = refl
    split (f ∷ fs) s l m = go (split fs s.1 (All-tail Live f fs l) (All-tail (Least a) f fs m)) (own f) refl
      where
        go : fs ≡ filter own fs ++ filter other fs → (b : Bool) → own f ≡ b → f ∷ fs ≡ filter own (f ∷ fs) ++ filter other (f ∷ fs)
        go ih true o = ap (λ xs. f ∷ xs) ih ∙ sym (ap₂ (λ xs ys. xs ++ ys) (filter_true own f fs o) (filter_false other f fs (ap not o)))
        go ih false o =
            let q = other_above f (All-head (Least a) f fs m) (All-head Live f fs l) o in
            let w = All-weaker (Later f) (λ g. own g ≡ false) (λ g v. own_not g (omega (arith, v.page))) fs s.0 in
            let none = filter_none own fs w in
            ap (λ xs. xs ++ (f ∷ fs)) (sym (filter_false own f fs o ∙ none)) ∙ ap (λ xs. filter own (f ∷ fs) ++ xs) (sym (filter_true other f fs (ap not o) ∙ ap (λ xs. f ∷ xs) (others_all fs w)))

not_true : (b : Bool) → not b ≡ true → b ≡ false
not_true true e = absurd (false≢true e)
not_true false e = refl

-- page by page, where the fragments gs show the pages
tagged_items : (a : ℕ) (fs : List Fragment) → All (λ f. f.pid ≡ a) fs → tagged a (items fs) ≡ fs
unfolding tagged items
tagged_items a [] l = refl
tagged_items a (f ∷ fs) l =
    let q : a ≡ f.pid = sym (All-head (λ g. g.pid ≡ a) f fs l) in
    ap₂ (λ (n : ℕ) xs. record { pid = n; item = f.item } ∷ xs) q (tagged_items a fs (All-tail (λ g. g.pid ≡ a) f fs l))

module _ (ss : List PageState) (gs : List Fragment) where
  abbrev row : ℕ → ℕ → List Page
  row a m = map (λ i. page_of gs i (state_at ss i)) (range_with_len a m)

  -- the fragments fs are those of the pages from page a on, below page a + m
  record From (a m : ℕ) (fs : List Fragment) : Type 0 where
    ascends : Ascending fs
    live : All (Live ss) fs
    least : All (Least a) fs
    lower : All (Lower (a + m)) fs
    shown : (i low : ℕ) → a ≤ i → filter (of_page i low) gs ≡ filter (of_page i low) fs

  module _ (a m : ℕ) (fs : List Fragment) (r : From a (suc m) fs) (ih : (xs : List Fragment) → From (a + 1) m xs → xs ≡ laid_out (a + 1) (row (a + 1) m)) where
    abbrev onward : List Fragment
    onward = laid_out (a + 1) (row (a + 1) m)

    without : ((f : Fragment) → f.pid ≡ a → Live ss f → ⊥) → From (a + 1) m fs
    without h = record {
      ascends = r.ascends;
      live = r.live;
      least = past ss a fs h r.live r.least;
      lower = All-weaker (Lower (a + suc m)) (Lower (a + 1 + m)) (λ f l. omega arith) fs r.lower;
      shown = λ i low l. r.shown i low (omega arith);
    }

    behind_own : (base : Item) (k : ℕ) → state_at ss a ≡ Present base k → From (a + 1) m (filter (not_of_page a base.0) fs)
    behind_own base k e =
        let other = not_of_page a base.0 in
        record {
          ascends = ascending_filter other fs r.ascends;
          live = All-filter other (Live ss) fs r.live;
          least = into_filter (Least (a + 1)) other fs (λ j d l o.
              let f = get_or fs j d in
              let h = other_above ss a k base e f (r.least j d l) (r.live j d l) (not_true (of_page a base.0 f) o) in omega arith);
          lower = All-filter other (Lower (a + 1 + m)) fs (All-weaker (Lower (a + suc m)) (Lower (a + 1 + m)) (λ f l. omega arith) fs r.lower);
          shown = λ i low l.
              r.shown i low (omega arith)
              ∙ sym (filter_filter other (of_page i low) fs (λ f o. ap not (own_not ss a k base e f (omega (arith, of_page-pid i low f o)))));
        }

    row_step : (s : PageState) → state_at ss a ≡ s → fs ≡ laid_out a (page_of gs a s ∷ row (a + 1) m)
    unfolding laid_out page_of
    row_step Uninitialized e = ih fs (without (λ f. alive_uninitialized ss f a e)) ∙ ap (λ n. laid_out n (row (a + 1) m)) (add-one a)
    row_step (Free lsn ptr) e = ih fs (without (λ f. alive_free ss f a lsn ptr e)) ∙ ap (λ n. laid_out n (row (a + 1) m)) (add-one a)
    row_step (Present base k) e =
        let t = of_page a base.0 in
        let front : tagged a (items (filter t gs)) ≡ filter t fs =
        tagged_items a (filter t gs) (into_filter (λ f. f.pid ≡ a) t gs (λ j d l. of_page-pid a base.0 (get_or gs j d))) ∙ r.shown a base.0 (omega arith) in
        split ss a k base e fs r.ascends r.live r.least
        ∙ ap₂ (λ xs ys. xs ++ ys) (sym front) (ih (filter (not_of_page a base.0) fs) (behind_own base k e) ∙ ap (λ n. laid_out n (row (a + 1) m)) (add-one a))

  lay : (m a : ℕ) (fs : List Fragment) → From a m fs → fs ≡ laid_out a (row a m)
  unfolding laid_out
  lay zero a [] r = refl
  lay zero a (f ∷ fs) r = absurd (omega (arith, All-head (Least a) f fs r.least, All-head (Lower (a + 0)) f fs r.lower))
  lay (suc m) a fs r = row_step a m fs r (λ xs q. lay m (a + 1) xs q) (state_at ss a) refl

-- ---- the order that a sort leaves
in_order : (fs gs : List Fragment) → InOrder fs gs → Ascending gs
in_order fs gs o = ascending gs (λ k d h. later_test (get_or gs k d) (get_or gs (suc k) d) (ap (λ n. is_lt (by_page_and_lsn (key (get_or gs n d)) (key (get_or gs k d)))) (sym (add-one k)) ∙ o.sorted k d (omega arith) (omega arith)))
  where
    key : Fragment → ℕ × ℕ
    key f = (f.pid, f.item.0)

sound-get : (top : ℕ) (ps : List Page) (i : ℕ) → sound_pages top ps ≡ true → sound_page top (get_or ps i uninitialized) ≡ true
unfolding sound_pages sound_page
sound-get top [] i e = refl
sound-get top (p ∷ ps) zero e = (and_parts _ _ e).0
sound-get top (p ∷ ps) (suc i) e = sound-get top ps i (and_parts _ _ e).1

sound_rises : (top : ℕ) (base : Item) (xs : List Item) → sound_page top (present base xs) ≡ true → rises_from (base.0 + 1) top xs ≡ true
unfolding sound_page rises_from
sound_rises top base xs e = grind (arith, nat_tests)

-- fs are fragments that are alive, of sound pages, and gs are they in order
module _ (top : ℕ) (fs gs : List Fragment) (ss : List PageState) (n : ℕ) (b : Blank ss n) (s : sound_pages top (pages fs ss n) ≡ true) (l : All (Live ss) fs) (o : InOrder fs gs) where
  same_page : (i : ℕ) (t : PageState) → state_at ss i ≡ t → page_of gs i t ≡ page_of fs i t
  unfolding page_of
  same_page i Uninitialized e = refl
  same_page i (Free lsn ptr) e = refl
  same_page i (Present base k) e =
      let p = of_page i base.0 in
      let w : sound_page top (present base (items (filter p fs))) ≡ true =
      ap (sound_page top) (sym (get_or-pages fs ss n i b ∙ ap (page_of fs i) e)) ∙ sound-get top (pages fs ss n) i s in
      ap (λ (xs : List Fragment). present base (items xs))
      (same (filter p fs) (filter p gs) (rise (base.0 + 1) top (filter p fs) (sound_rises top base (items (filter p fs)) w)) (level_filter i base.0 gs (in_order fs gs o)) (alike_filter p fs gs o.permutation))

  live_after : All (Live ss) gs
  live_after = All-permutation (Live ss) fs gs o.permutation l

  live_within : (f : Fragment) → Live ss f → f.pid < n
  unfolding alive
  live_within f a = alive_within ss f fs n b (state_at ss f.pid) refl a

  pub laid_out-in_order : gs ≡ laid_out 0 (pages fs ss n)
  unfolding pages
  laid_out-in_order =
      lay ss gs n 0 gs
      (record {
        ascends = in_order fs gs o;
        live = live_after;
        least = λ k d h. omega arith;
        lower = All-weaker (Live ss) (Lower (0 + n)) (λ f a. omega (arith, live_within f a)) gs live_after;
        shown = λ i low h. refl;
      })
      ∙ ap (laid_out 0) (pages_same fs gs ss n b (λ j. same_page j (state_at ss j) refl))

-- ---- the tables after `settle`
module _ (t u : PageTable) (c : Compacted t u) (gs : List Fragment) (front : InOrder (take u.used u.fragments.now) (take u.used gs))
    (behind : drop u.used gs ≡ replicate (length u.fragments.now - u.used) blank) (top : ℕ) (k : Kept top t) where
  abbrev left : List Fragment
  left = filter (alive t.states.now) (in_use t)

  pages_left : pages left t.states.now t.count ≡ flat t
  pages_left = pages_compacted top (in_use t) t.states.now t.count t.live k.consistent

  laid_front : take u.used gs ≡ laid_out 0 (flat t)
  laid_front =
      laid_out-in_order top left (take u.used gs) t.states.now t.count k.consistent.blank (subst (λ ps. sound_pages top ps ≡ true) (sym pages_left) k.sound) (filter_passes (alive t.states.now) (in_use t))
      (subst (λ fs. InOrder fs (take u.used gs)) c.in_use front)
      ∙ ap (laid_out 0) pages_left

  used_fragments : u.used ≡ fragments (flat t)
  used_fragments = used-compacted top t u k c ∙ k.consistent.counted

  whole_length : length gs ≡ length u.fragments.now
  whole_length =
      ap length (sym (take-append-drop u.used gs)) ∙ length-append (take u.used gs) (drop u.used gs)
      ∙ omega (arith, ap length laid_front, length-laid_out 0 (flat t), used_fragments, ap length behind, length-replicate (length u.fragments.now - u.used) blank, c.used, c.size, k.used)

  pub settled : Settled (flat t) (record u { fragments = record u.fragments { now = gs } })
  settled = record {
    count = c.count ∙ sym (length-pages (in_use t) t.states.now t.count);
    used = used_fragments;
    live = c.live ∙ k.consistent.counted;
    states =
        subst (λ xs. xs ≡ states_of (flat t) ++ replicate (length xs - length (flat t)) Uninitialized) (sym (same_states top t u k c))
        (states-settled top (in_use t) t.states.now t.count t.live k.consistent k.count
        ∙ ap (λ m. states_of (flat t) ++ replicate (length t.states.now - m) Uninitialized) (sym (length-pages (in_use t) t.states.now t.count)));
    fragments =
        sym (take-append-drop u.used gs) ∙ ap₂ (λ xs ys. xs ++ ys) laid_front behind
        ∙ ap₂ (λ m n. laid_out 0 (flat t) ++ replicate (m - n) blank) (sym whole_length) used_fragments;
  }

-- what two tables in order show, up to the pages and fragments in use
module _ (ps : List Page) (t : PageTable) (s : Settled ps t) where
  pub settled_states : take t.count t.states.now ≡ states_of ps
  settled_states =
      ap (λ n. take n t.states.now) s.count ∙ ap (take (length ps)) s.states
      ∙ take_at (states_of ps) (replicate (length t.states.now - length ps) Uninitialized) (length ps) (length_states ps)

  pub settled_fragments : in_use t ≡ laid_out 0 ps
  settled_fragments =
      ap (λ n. take n t.fragments.now) s.used ∙ ap (take (fragments ps)) s.fragments
      ∙ take_at (laid_out 0 ps) (replicate (length t.fragments.now - fragments ps) blank) (fragments ps) (length-laid_out 0 ps)

  pub settled_nested : nested (take t.count t.states.now) (in_use t) ≡ ps
  settled_nested = ap₂ nested settled_states settled_fragments ∙ nested-laid_out_all 0 ps

  pub settled_tidy : tidy 0 (take t.count t.states.now) (in_use t) ≡ true
  settled_tidy = ap₂ (tidy 0) settled_states settled_fragments ∙ tidy-laid_out 0 ps
