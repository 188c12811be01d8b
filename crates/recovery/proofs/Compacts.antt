-- The loss of fragments that no page has: pages stay, and as many fragments are left as are alive. Assumes nothing.
use Rattle.std.proofs.Common.{◌≡◌, ℕ, suc, ◌+◌, ◌<◌, Bool, true, false, List, [], ◌∷◌, length, get_or, take, set, MutBor, sym, refl, ap, ◌∙◌, arith}
use Rattle.std.proofs.lemmas.List.{get_or_default}
use Rattle.std.proofs.lemmas.List.Elements.{All-filter}
use Rattle.std.proofs.lemmas.List.Filters.{FiltersInPlace, FiltersInPlace-more_no, FiltersInPlace-more_set}
use Rattle.std.proofs.lemmas.Bool.{false≢true}
use Rattle.std.proofs.lemmas.Bool.Decides.{nat_tests}
use Rattle.std.specs.List.{filter}
use Rattle.pages.specs.declared.page_state.Fragment.{Fragment}
use Rattle.pages.specs.declared.page_state.PageState.{PageState}
use Rattle.pages.specs.declared.page_state.PageState.TheVariants.{Uninitialized, Free, Present}
use Rattle.pages.specs.Pages.{Item, present, fragments_of, fragments}
use Rattle.pages.specs.Shown.{items}
use Rattle.recovery.specs.Flat.{of_page, page_of, state_at, pages, newer, alive, Right, Consistent, Compacted}
use Rattle.recovery.specs.declared.page_table.PageTable.{PageTable}
use Rattle.recovery.proofs.Flats.{Below, Blank, filter_true, filter_false, of_page-other, fragments_none, fragments-put, get_or-pages, pages_put, pages_same, present_within}

-- a fragment of a page's own is alive
alive-own : (ss : List PageState) (f : Fragment) (j k : ℕ) (base : Item) → state_at ss j ≡ Present base k → of_page j base.0 f ≡ true → alive ss f ≡ true
unfolding alive newer of_page
alive-own ss f j k base e o =
    let a : f.pid ≡ j = grind (arith, nat_tests) in
    let l : base.0 < f.item.0 = grind (arith, nat_tests) in
    ap (λ i. newer (state_at ss i) f.item.0) a ∙ ap (λ s. newer s f.item.0) e ∙ grind (arith, nat_tests)

pub filter_filter : (p q : Fragment → Bool) (fs : List Fragment) → ((f : Fragment) → q f ≡ true → p f ≡ true) → filter q (filter p fs) ≡ filter q fs
filter_filter p q [] h = refl
filter_filter p q (f ∷ fs) h = go (filter_filter p q fs h) (p f) refl (q f) refl
  where
    go : filter q (filter p fs) ≡ filter q fs → (x : Bool) → p f ≡ x → (y : Bool) → q f ≡ y → filter q (filter p (f ∷ fs)) ≡ filter q (f ∷ fs)
    go ih true a true b = ap (filter q) (filter_true p f fs a) ∙ filter_true q f (filter p fs) b ∙ ap (λ gs. f ∷ gs) (ih) ∙ sym (filter_true q f fs b)
    go ih true a false b = ap (filter q) (filter_true p f fs a) ∙ filter_false q f (filter p fs) b ∙ ih ∙ sym (filter_false q f fs b)
    go ih false a true b = absurd (false≢true (sym a ∙ h f b))
    go ih false a false b = ap (filter q) (filter_false p f fs a) ∙ ih ∙ sym (filter_false q f fs b)

module _ (ss : List PageState) (fs : List Fragment) (j : ℕ) where
  filter_alive : (base : Item) (k : ℕ) → state_at ss j ≡ Present base k → filter (of_page j base.0) (filter (alive ss) fs) ≡ filter (of_page j base.0) fs
  filter_alive base k e = filter_filter (alive ss) (of_page j base.0) fs (λ f. alive-own ss f j k base e)

  page_of-alive : (s : PageState) → state_at ss j ≡ s → page_of (filter (alive ss) fs) j s ≡ page_of fs j s
  unfolding page_of
  page_of-alive Uninitialized e = refl
  page_of-alive (Free lsn ptr) e = refl
  page_of-alive (Present base k) e = ap (λ (gs : List Fragment). present base (items gs)) (filter_alive base k e)

  right_alive : (top : ℕ) (s : PageState) → state_at ss j ≡ s → Right top fs j s → Right top (filter (alive ss) fs) j s
  right_alive top Uninitialized e r = tt
  right_alive top (Free lsn ptr) e r = tt
  right_alive top (Present base k) e r = (r.0, r.1 ∙ sym (ap length (filter_alive base k e)))

module _ (top : ℕ) (fs : List Fragment) (ss : List PageState) (n live : ℕ) (c : Consistent top fs ss n live) where
  pub pages_compacted : pages (filter (alive ss) fs) ss n ≡ pages fs ss n
  pages_compacted = pages_same fs (filter (alive ss) fs) ss n c.blank (λ j. page_of-alive ss fs j (state_at ss j) refl)

  pub compacted-consistent : Consistent top (filter (alive ss) fs) ss n live
  compacted-consistent = record {
    blank = c.blank;
    below = All-filter (alive ss) (Below top) fs c.below;
    right = λ j. right_alive ss fs j top (state_at ss j) refl (c.right j);
    counted = c.counted ∙ ap fragments (sym pages_compacted);
  }

-- ---- each fragment that is alive is one page's
no_fragments : (j : ℕ) (s : PageState) → fragments_of (page_of [] j s) ≡ 0
unfolding fragments_of page_of items
no_fragments j Uninitialized = refl
no_fragments j (Free lsn ptr) = refl
no_fragments j (Present base k) = refl

module _ (ss : List PageState) (f : Fragment) (fs : List Fragment) where
  page_of-not : (j : ℕ) (s : PageState) → ((base : Item) (k : ℕ) → s ≡ Present base k → of_page j base.0 f ≡ false) → page_of (f ∷ fs) j s ≡ page_of fs j s
  unfolding page_of
  page_of-not j Uninitialized h = refl
  page_of-not j (Free lsn ptr) h = refl
  page_of-not j (Present base k) h = ap (λ (gs : List Fragment). present base (items gs)) (filter_false (of_page j base.0) f fs (h base k refl))

  dead_not : (j : ℕ) → alive ss f ≡ false → (base : Item) (k : ℕ) → state_at ss j ≡ Present base k → of_page j base.0 f ≡ false
  dead_not j a base k e = go (of_page j base.0 f) refl
    where
      go : (x : Bool) → of_page j base.0 f ≡ x → of_page j base.0 f ≡ false
      go true o = absurd (false≢true (sym a ∙ alive-own ss f j k base e o))
      go false o = o

  module _ (n : ℕ) (b : Blank ss n) where
    pages_dead : alive ss f ≡ false → pages (f ∷ fs) ss n ≡ pages fs ss n
    pages_dead a = pages_same fs (f ∷ fs) ss n b (λ j. page_of-not j (state_at ss j) (dead_not j a))

    fragments_of-alive : (s : PageState) → newer s f.item.0 ≡ true → fragments_of (page_of (f ∷ fs) f.pid s) ≡ fragments_of (page_of fs f.pid s) + 1
    unfolding newer page_of fragments_of items of_page
    fragments_of-alive Uninitialized a = absurd (false≢true a)
    fragments_of-alive (Free lsn ptr) a = absurd (false≢true a)
    fragments_of-alive (Present base k) a =
        let o : of_page f.pid base.0 f ≡ true = grind (arith, nat_tests) in
        let e : length (items (filter (of_page f.pid base.0) (f ∷ fs))) ≡ suc (length (items (filter (of_page f.pid base.0) fs))) = ap (λ (gs : List Fragment). length (items gs)) (filter_true (of_page f.pid base.0) f fs o) in
        omega arith

    pub alive_within : (s : PageState) → state_at ss f.pid ≡ s → newer s f.item.0 ≡ true → f.pid < n
    unfolding newer
    alive_within Uninitialized e a = absurd (false≢true a)
    alive_within (Free lsn ptr) e a = absurd (false≢true a)
    alive_within (Present base k) e a = present_within ss n f.pid k base b e

    fragments_alive : alive ss f ≡ true → fragments (pages (f ∷ fs) ss n) ≡ fragments (pages fs ss n) + 1
    unfolding alive
    fragments_alive a =
        let s = state_at ss f.pid in
        let h = alive_within s refl a in
        let p = page_of (f ∷ fs) f.pid s in
        let put = pages_put fs (f ∷ fs) ss ss n n f.pid p b b (omega arith)
        (λ j q. page_of-not j (state_at ss j) (λ base k e. of_page-other j base.0 f (λ z. q (sym z)))) refl in
        let z = fragments_of-alive s a in
        omega (arith, ap fragments put, fragments-put (pages fs ss n) f.pid p, ap fragments_of (get_or-pages fs ss n f.pid b))

pub length-alive : (ss : List PageState) (fs : List Fragment) (n : ℕ) → Blank ss n → length (filter (alive ss) fs) ≡ fragments (pages fs ss n)
length-alive ss [] n b = sym (fragments_none (pages [] ss n) (λ j. ap fragments_of (get_or-pages [] ss n j b) ∙ no_fragments j (state_at ss j)))
length-alive ss (f ∷ fs) n b = go (length-alive ss fs n b) (alive ss f) refl
  where
    go : length (filter (alive ss) fs) ≡ fragments (pages fs ss n) → (x : Bool) → alive ss f ≡ x → length (filter (alive ss) (f ∷ fs)) ≡ fragments (pages (f ∷ fs) ss n)
    go ih true a = ap length (filter_true (alive ss) f fs a) ∙ omega (arith, fragments_alive ss f fs n b a, ih)
    go ih false a = ap length (filter_false (alive ss) f fs a) ∙ ih ∙ sym (ap fragments (pages_dead ss f fs n b a))

-- ---- the pass that leaves them out: the first i fragments are passed, and those of them that are alive stand at the front
pub record Moving (t u : PageTable) (kept i : ℕ) : Type 0 where
  pub states : u.states ≡ t.states
  pub count : u.count ≡ t.count
  pub live : u.live ≡ t.live
  pub lender : u.fragments.ghost_name ≡ t.fragments.ghost_name
  pub moved : FiltersInPlace (alive t.states.now) t.fragments.now u.fragments.now kept i

module _ (t u : PageTable) (kept i : ℕ) (m : Moving t u kept i) where
  module _ (d : Fragment) (h : i < length u.fragments.now) where
    module _ (b : Bool) (a : b ≡ alive u.states.now (get_or u.fragments.now i d)) where
      same_alive : alive t.states.now (get_or u.fragments.now i d) ≡ b
      same_alive = ap (λ (s : MutBor (List PageState)). alive s.now (get_or u.fragments.now i d)) (sym m.states) ∙ sym a

      pub moving-not : b ≡ false → Moving t u kept (i + 1)
      moving-not e = record {
        states = m.states;
        count = m.count;
        live = m.live;
        lender = m.lender;
        moved = FiltersInPlace-more_no m.moved h (same_alive ∙ e) (get_or_default u.fragments.now i d (get_or u.fragments.now i d) h);
      }

      pub moving_set : b ≡ true → Moving t (record u { fragments = record u.fragments { now = set u.fragments.now kept (get_or u.fragments.now i d) } }) (kept + 1) (i + 1)
      moving_set e = record {
        states = m.states;
        count = m.count;
        live = m.live;
        lender = m.lender;
        moved = FiltersInPlace-more_set m.moved h (same_alive ∙ e) (get_or_default u.fragments.now i d (get_or u.fragments.now i d) h);
      }

  pub moving_end : i ≡ t.used → Compacted t (record u { used = kept })
  moving_end e = record {
    in_use = m.moved.front ∙ ap (λ n. filter (alive t.states.now) (take n t.fragments.now)) e;
    used = omega (arith, m.moved.behind);
    states = m.states;
    count = m.count;
    live = m.live;
    size = m.moved.long;
    lender = m.lender;
  }
