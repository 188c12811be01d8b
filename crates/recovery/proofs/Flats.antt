-- Pages in two tables: what a new state, a new fragment and the loss of dropped fragments make of them. Assumes nothing.
use Rattle.std.proofs.Common.{◌≡◌, ℕ, zero, suc, ◌+◌, ◌-◌, ◌<◌, ◌≤◌, max, Bool, true, false, List, [], ◌∷◌, ◌++◌, length, get_or, set, replicate, sym, refl, ap, ◌∙◌, subst, inl, inr, arith, length-append, length-set}
use Rattle.std.proofs.lemmas.List.{append-nil, length-replicate, get_or_append_left, get_or-append_right, get_or_past, get_or-set_same, get_or-set_other, ext_get_or, set-get_or}
use Rattle.std.proofs.lemmas.List.Elements.{filter-append, All-push, All-weaker, All-head, All-tail}
use Rattle.std.proofs.lemmas.List.FromFn.{length-map-range_with_len, get_or-map-range_with_len}
use Rattle.std.proofs.lemmas.Bool.{cases_lt, cases_eq}
use Rattle.std.proofs.lemmas.Bool.Decides.{nat_tests}
use Rattle.std.specs.List.{All, filter}
use Rattle.pages.specs.declared.page_state.Fragment.{Fragment}
use Rattle.pages.specs.declared.page_state.PageState.{PageState}
use Rattle.pages.specs.declared.page_state.PageState.TheVariants.{Uninitialized, Free, Present}
use Rattle.pages.specs.Pages.{Item, Page, uninitialized, present, fragments_of, fragments, grown, joined}
use Rattle.pages.specs.Shown.{items}
use Rattle.recovery.specs.Flat.{of_page, page_of, state_at, pages, fragments_in, Right, Consistent}

-- ---- lists of pages
pub get_or-replicate_same : {X : Type 0} (x : X) (m j : ℕ) → get_or (replicate m x) j x ≡ x
get_or-replicate_same x zero j = refl
get_or-replicate_same x (suc m) zero = refl
get_or-replicate_same x (suc m) (suc j) = get_or-replicate_same x m j

grown-length : (ps : List Page) (k : ℕ) → length (grown ps k) ≡ max (length ps) k
unfolding grown
grown-length ps k = simp (length-append, length-replicate) (omega arith)

grown-at : (ps : List Page) (k j : ℕ) → get_or (grown ps k) j uninitialized ≡ get_or ps j uninitialized
unfolding grown
grown-at ps k j =
    elim (cases_lt j (length ps)) [
      | inl h ↦ get_or_append_left ps (replicate (k - length ps) uninitialized) uninitialized j h
      | inr h ↦ get_or-append_right ps (replicate (k - length ps) uninitialized) (length ps) j uninitialized refl h
          ∙ get_or-replicate_same uninitialized (k - length ps) (j - length ps) ∙ sym (get_or_past ps j uninitialized h)
    ]

pub grown_within : (ps : List Page) (k : ℕ) → k ≤ length ps → grown ps k ≡ ps
unfolding grown
grown_within ps k h = let z : k - length ps ≡ 0 = omega arith in ap (λ m. ps ++ replicate m uninitialized) z ∙ append-nil ps

fragments-set : (ps : List Page) (i : ℕ) (p : Page) → i < length ps → fragments (set ps i p) + fragments_of (get_or ps i uninitialized) ≡ fragments ps + fragments_of p
unfolding fragments
fragments-set [] i p h = absurd (omega arith)
fragments-set (q ∷ ps) zero p h = omega arith
fragments-set (q ∷ ps) (suc i) p h = let ih = fragments-set ps i p (omega arith) in omega arith

fragments-replicate : (ps : List Page) (m : ℕ) → fragments (ps ++ replicate m uninitialized) ≡ fragments ps
unfolding fragments fragments_of
fragments-replicate [] zero = refl
fragments-replicate [] (suc m) = let ih = fragments-replicate [] m in omega arith
fragments-replicate (p ∷ ps) m = ap (λ n. fragments_of p + n) (fragments-replicate ps m)

fragments-grown : (ps : List Page) (k : ℕ) → fragments (grown ps k) ≡ fragments ps
unfolding grown
fragments-grown ps k = fragments-replicate ps (k - length ps)

pub fragments-put : (ps : List Page) (i : ℕ) (p : Page) → fragments (set (grown ps (i + 1)) i p) + fragments_of (get_or ps i uninitialized) ≡ fragments ps + fragments_of p
fragments-put ps i p =
    let h : i < length (grown ps (i + 1)) = omega (arith, grown-length ps (i + 1)) in
    let e = fragments-set (grown ps (i + 1)) i p h in
    omega (arith, ap fragments_of (grown-at ps (i + 1) i), fragments-grown ps (i + 1))

pub fragments-at : (ps : List Page) (i : ℕ) → fragments_of (get_or ps i uninitialized) ≤ fragments ps
unfolding fragments fragments_of
fragments-at [] i = omega arith
fragments-at (p ∷ ps) zero = omega arith
fragments-at (p ∷ ps) (suc i) = let ih = fragments-at ps i in omega arith

pub fragments_none : (ps : List Page) → ((i : ℕ) → fragments_of (get_or ps i uninitialized) ≡ 0) → fragments ps ≡ 0
unfolding fragments
fragments_none [] h = refl
fragments_none (p ∷ ps) h = let ih = fragments_none ps (λ i. h (suc i)) in omega (arith, h 0)

-- ---- pages of states
pub length-pages : (fs : List Fragment) (ss : List PageState) (n : ℕ) → length (pages fs ss n) ≡ n
unfolding pages
length-pages fs ss n = length-map-range_with_len _ 0 n

abbrev pub Blank : List PageState → ℕ → Type 0
Blank ss n = (i : ℕ) → n ≤ i → state_at ss i ≡ Uninitialized

pub get_or-pages : (fs : List Fragment) (ss : List PageState) (n i : ℕ) → Blank ss n → get_or (pages fs ss n) i uninitialized ≡ page_of fs i (state_at ss i)
unfolding pages page_of
get_or-pages fs ss n i b =
    elim (cases_lt i n) [
      | inl h ↦ get_or-map-range_with_len (λ k. page_of fs k (state_at ss k)) 0 n i i uninitialized h (omega arith)
      | inr h ↦ get_or_past (pages fs ss n) i uninitialized (omega (arith, length-pages fs ss n)) ∙ sym (ap (page_of fs i) (b i h))
    ]

-- where no page but page i is another
pub pages_put : (fs gs : List Fragment) (ss ts : List PageState) (n m i : ℕ) (p : Page) → Blank ss n → Blank ts m → m ≡ max n (i + 1)
    → ((j : ℕ) → (j ≡ i → ⊥) → page_of gs j (state_at ts j) ≡ page_of fs j (state_at ss j)) → page_of gs i (state_at ts i) ≡ p
    → pages gs ts m ≡ set (grown (pages fs ss n) (i + 1)) i p
pages_put fs gs ss ts n m i p b c e other same =
    let old = pages fs ss n in
    let wide : length (grown old (i + 1)) ≡ m = omega (arith, grown-length old (i + 1), length-pages fs ss n) in
    ext_get_or uninitialized (pages gs ts m) (set (grown old (i + 1)) i p) (length-pages gs ts m ∙ sym wide ∙ sym (length-set (grown old (i + 1)) i p))
    (λ j h. elim (cases_eq j i) [
      | inl q ↦ get_or-pages gs ts m j c ∙ ap (λ k. page_of gs k (state_at ts k)) q ∙ same ∙ sym (get_or-set_same (grown old (i + 1)) i p uninitialized (omega arith))
          ∙ ap (λ k. get_or (set (grown old (i + 1)) i p) k uninitialized) (sym q)
      | inr q ↦ get_or-pages gs ts m j c ∙ other j q ∙ sym (get_or-pages fs ss n j b) ∙ sym (grown-at old (i + 1) j) ∙ sym (get_or-set_other (grown old (i + 1)) i j p uninitialized q)
    ])

pub pages_same : (fs gs : List Fragment) (ss : List PageState) (n : ℕ) → Blank ss n → ((j : ℕ) → page_of gs j (state_at ss j) ≡ page_of fs j (state_at ss j)) → pages gs ss n ≡ pages fs ss n
pages_same fs gs ss n b h =
    ext_get_or uninitialized (pages gs ss n) (pages fs ss n) (length-pages gs ss n ∙ sym (length-pages fs ss n))
    (λ j l. get_or-pages gs ss n j b ∙ h j ∙ sym (get_or-pages fs ss n j b))

-- ---- fragments of one page
pub length-items : (fs : List Fragment) → length (items fs) ≡ length fs
unfolding items
length-items [] = refl
length-items (f ∷ fs) = ap suc (length-items fs)

items-append : (fs gs : List Fragment) → items (fs ++ gs) ≡ items fs ++ items gs
unfolding items
items-append [] gs = refl
items-append (f ∷ fs) gs = ap (λ xs. f.item ∷ xs) (items-append fs gs)

pub filter_none : (p : Fragment → Bool) (fs : List Fragment) → All (λ f. p f ≡ false) fs → filter p fs ≡ []
filter_none p [] a = refl
filter_none p (f ∷ fs) a = let e : p f ≡ false = All-head (λ g. p g ≡ false) f fs a in let ih = filter_none p fs (All-tail (λ g. p g ≡ false) f fs a) in grind arith

pub filter_true : (p : Fragment → Bool) (f : Fragment) (fs : List Fragment) → p f ≡ true → filter p (f ∷ fs) ≡ f ∷ filter p fs
filter_true p f fs e = grind arith

pub filter_false : (p : Fragment → Bool) (f : Fragment) (fs : List Fragment) → p f ≡ false → filter p (f ∷ fs) ≡ filter p fs
filter_false p f fs e = grind arith

abbrev pub Below : ℕ → Fragment → Type 0
Below top f = f.item.0 < top

-- none is newer than an LSN that all are below
of_page-none : (i low : ℕ) (fs : List Fragment) → All (λ f. f.item.0 < low) fs → filter (of_page i low) fs ≡ []
unfolding of_page
of_page-none i low fs a = filter_none (of_page i low) fs (All-weaker (λ f. f.item.0 < low) (λ f. of_page i low f ≡ false) (λ f h. grind (arith, nat_tests)) fs a)

pub of_page-own : (i low : ℕ) (f : Fragment) → f.pid ≡ i → low < f.item.0 → of_page i low f ≡ true
unfolding of_page
of_page-own i low f e l = grind (arith, nat_tests)

pub of_page-other : (i low : ℕ) (f : Fragment) → (f.pid ≡ i → ⊥) → of_page i low f ≡ false
unfolding of_page
of_page-other i low f e = grind (arith, nat_tests)

fragments-right : (top : ℕ) (fs : List Fragment) (i : ℕ) (s : PageState) → Right top fs i s → fragments_in s ≡ fragments_of (page_of fs i s)
unfolding fragments_in fragments_of page_of
fragments-right top fs i Uninitialized r = refl
fragments-right top fs i (Free lsn ptr) r = refl
fragments-right top fs i (Present base n) r = r.1 ∙ sym (length-items (filter (of_page i base.0) fs))

right_up : (top over : ℕ) (fs : List Fragment) (i : ℕ) (s : PageState) → top ≤ over → Right top fs i s → Right over fs i s
right_up top over fs i Uninitialized h r = tt
right_up top over fs i (Free lsn ptr) h r = tt
right_up top over fs i (Present base n) h r = (omega (arith, r.0), r.1)

pub consistent_up : (top over : ℕ) (fs : List Fragment) (ss : List PageState) (n live : ℕ) → top ≤ over → Consistent top fs ss n live → Consistent over fs ss n live
consistent_up top over fs ss n live h c = record {
  blank = c.blank;
  below = All-weaker (Below top) (Below over) (λ f l. omega arith) fs c.below;
  right = λ i. right_up top over fs i (state_at ss i) h (c.right i);
  counted = c.counted;
}

-- ---- a new state without fragments, of page i
module _ (lsn : ℕ) (fs : List Fragment) (ss : List PageState) (n live i : ℕ) (c : Consistent lsn fs ss n live) (h : i < length ss) where
  pub fragments_in-live : fragments_in (state_at ss i) ≤ live
  fragments_in-live =
      omega (arith, fragments-right lsn fs i (state_at ss i) (c.right i), ap fragments_of (get_or-pages fs ss n i c.blank), fragments-at (pages fs ss n) i, c.counted)

  module _ (s : PageState) (p : Page) (e : page_of fs i s ≡ p) (r : Right (lsn + 1) fs i s) (z : fragments_of p ≡ 0) where
    new_blank : Blank (set ss i s) (max n (i + 1))
    new_blank j l = get_or-set_other ss i j s Uninitialized (λ q. omega arith) ∙ c.blank j (omega arith)

    pub pages_renewed : pages fs (set ss i s) (max n (i + 1)) ≡ set (grown (pages fs ss n) (i + 1)) i p
    pages_renewed =
        pages_put fs fs ss (set ss i s) n (max n (i + 1)) i p c.blank new_blank refl (λ j q. ap (page_of fs j) (get_or-set_other ss i j s Uninitialized q))
        (ap (page_of fs i) (get_or-set_same ss i s Uninitialized h) ∙ e)

    pub renewed-consistent : Consistent (lsn + 1) fs (set ss i s) (max n (i + 1)) (live - fragments_in (state_at ss i))
    renewed-consistent = record {
      blank = new_blank;
      below = All-weaker (Below lsn) (Below (lsn + 1)) (λ f l. omega arith) fs c.below;
      right = λ j. elim (cases_eq j i) [
        | inl q ↦ subst (λ k. Right (lsn + 1) fs k (state_at (set ss i s) k)) (sym q) (subst (Right (lsn + 1) fs i) (sym (get_or-set_same ss i s Uninitialized h)) r)
        | inr q ↦ subst (Right (lsn + 1) fs j) (sym (get_or-set_other ss i j s Uninitialized q)) (right_up lsn (lsn + 1) fs j (state_at ss j) (omega arith) (c.right j))
      ];
      counted = omega (arith, ap fragments pages_renewed, fragments-put (pages fs ss n) i p, ap fragments_of (get_or-pages fs ss n i c.blank), fragments-right lsn fs i (state_at ss i) (c.right i), c.counted);
    }

-- what records leave that are no links
module _ (lsn : ℕ) (fs : List Fragment) (i : ℕ) (a : All (λ f. f.item.0 < lsn) fs) where
  pub page_of-replaced : (base : Item) → base.0 ≡ lsn → page_of fs i (Present base 0) ≡ present base []
  unfolding page_of items
  page_of-replaced base e = ap (λ (gs : List Fragment). present base (items gs)) (ap (λ l. filter (of_page i l) fs) e ∙ of_page-none i lsn fs a)

  pub right_replaced : (base : Item) → base.0 ≡ lsn → Right (lsn + 1) fs i (Present base 0)
  right_replaced base e = (omega arith, sym (ap length (ap (λ l. filter (of_page i l) fs) e ∙ of_page-none i lsn fs a)))

-- ---- a link that joins page i
module _ (f : Fragment) (fs : List Fragment) (j low : ℕ) where
  filter_own : f.pid ≡ j → low < f.item.0 → filter (of_page j low) (fs ++ f ∷ []) ≡ filter (of_page j low) fs ++ f ∷ []
  filter_own q l =
      filter-append (of_page j low) fs (f ∷ []) ∙ ap (λ gs. filter (of_page j low) fs ++ gs) (filter_true (of_page j low) f [] (of_page-own j low f q l))

  filter_other : (f.pid ≡ j → ⊥) → filter (of_page j low) (fs ++ f ∷ []) ≡ filter (of_page j low) fs
  filter_other q =
      filter-append (of_page j low) fs (f ∷ []) ∙ ap (λ gs. filter (of_page j low) fs ++ gs) (filter_false (of_page j low) f [] (of_page-other j low f q))
      ∙ append-nil (filter (of_page j low) fs)

page_of-other : (f : Fragment) (fs : List Fragment) (j : ℕ) (s : PageState) → (f.pid ≡ j → ⊥) → page_of (fs ++ f ∷ []) j s ≡ page_of fs j s
unfolding page_of
page_of-other f fs j Uninitialized q = refl
page_of-other f fs j (Free lsn ptr) q = refl
page_of-other f fs j (Present base n) q = ap (λ (gs : List Fragment). present base (items gs)) (filter_other f fs j base.0 q)

right_other : (top over : ℕ) (f : Fragment) (fs : List Fragment) (j : ℕ) (s : PageState) → top ≤ over → (f.pid ≡ j → ⊥) → Right top fs j s → Right over (fs ++ f ∷ []) j s
right_other top over f fs j Uninitialized h q r = tt
right_other top over f fs j (Free lsn ptr) h q r = tt
right_other top over f fs j (Present base n) h q r = (omega (arith, r.0), r.1 ∙ sym (ap length (filter_other f fs j base.0 q)))

pub present_within : (ss : List PageState) (n i k : ℕ) (base : Item) → Blank ss n → state_at ss i ≡ Present base k → i < n
present_within ss n i k base b e =
    elim (cases_lt i n) [ inl h ↦ h | inr h ↦ absurd (let q = b i h in let z : ◌≡◌ {A = ℕ} 0 1 = cc in omega arith) ]

module _ (lsn : ℕ) (fs : List Fragment) (ss : List PageState) (n live i k : ℕ) (base : Item) (f : Fragment) (c : Consistent lsn fs ss n live)
    (e : state_at ss i ≡ Present base k) (own : f.pid ≡ i) (at : f.item.0 ≡ lsn) where
  abbrev old_page : Page
  old_page = present base (items (filter (of_page i base.0) fs))

  abbrev new_page : Page
  new_page = present base (items (filter (of_page i base.0) fs) ++ f.item ∷ [])

  abbrev new_states : List PageState
  new_states = set ss i (Present base (k + 1))

  within : i < n
  within = present_within ss n i k base c.blank e

  wide : i < length ss
  wide = elim (cases_lt i (length ss)) [
    | inl h ↦ h
    | inr h ↦ absurd (let q = get_or_past ss i Uninitialized h in let z : ◌≡◌ {A = ℕ} 0 1 = cc in omega arith)
  ]

  right_old : Right lsn fs i (Present base k)
  right_old = subst (Right lsn fs i) e (c.right i)

  newer_base : base.0 < f.item.0
  newer_base = omega (arith, right_old.0)

  linked_blank : Blank new_states n
  linked_blank j l = get_or-set_other ss i j (Present base (k + 1)) Uninitialized (λ q. omega (arith, within)) ∙ c.blank j l

  page_before : get_or (pages fs ss n) i uninitialized ≡ old_page
  unfolding page_of
  page_before = get_or-pages fs ss n i c.blank ∙ ap (page_of fs i) e

  page_after : page_of (fs ++ f ∷ []) i (state_at new_states i) ≡ new_page
  unfolding page_of items
  page_after =
      ap (page_of (fs ++ f ∷ []) i) (get_or-set_same ss i (Present base (k + 1)) Uninitialized wide)
      ∙ ap (λ (gs : List Fragment). present base (items gs)) (filter_own f fs i base.0 own newer_base)
      ∙ ap (present base) (items-append (filter (of_page i base.0) fs) (f ∷ []))

  linked_put : pages (fs ++ f ∷ []) new_states n ≡ set (grown (pages fs ss n) (i + 1)) i new_page
  linked_put =
      pages_put fs (fs ++ f ∷ []) ss new_states n n i new_page c.blank linked_blank (omega (arith, within))
      (λ j q. ap (page_of (fs ++ f ∷ []) j) (get_or-set_other ss i j (Present base (k + 1)) Uninitialized q) ∙ page_of-other f fs j (state_at ss j) (λ z. q (sym z ∙ own)))
      page_after

  pub pages_linked : pages (fs ++ f ∷ []) new_states n ≡ set (pages fs ss n) i (joined (get_or (pages fs ss n) i uninitialized) f.item)
  unfolding joined
  pages_linked =
      linked_put ∙ ap (λ ps. set ps i new_page) (grown_within (pages fs ss n) (i + 1) (omega (arith, length-pages fs ss n, within)))
      ∙ ap (λ p. set (pages fs ss n) i (joined p f.item)) (sym page_before)

  one_more : fragments_of new_page ≡ fragments_of old_page + 1
  unfolding fragments_of
  one_more = length-append (items (filter (of_page i base.0) fs)) (f.item ∷ [])

  pub linked-consistent : Consistent (lsn + 1) (fs ++ f ∷ []) new_states n (live + 1)
  linked-consistent = record {
    blank = linked_blank;
    below = All-push (Below (lsn + 1)) fs f (All-weaker (Below lsn) (Below (lsn + 1)) (λ g l. omega arith) fs c.below) (omega arith);
    right = λ j. elim (cases_eq j i) [
      | inl q ↦ subst (λ m. Right (lsn + 1) (fs ++ f ∷ []) m (state_at new_states m)) (sym q)
          (subst (Right (lsn + 1) (fs ++ f ∷ []) i) (sym (get_or-set_same ss i (Present base (k + 1)) Uninitialized wide))
          (omega (arith, right_old.0), ap (λ m. m + 1) right_old.1 ∙ sym (ap length (filter_own f fs i base.0 own newer_base) ∙ length-append (filter (of_page i base.0) fs) (f ∷ []))))
      | inr q ↦ subst (Right (lsn + 1) (fs ++ f ∷ []) j) (sym (get_or-set_other ss i j (Present base (k + 1)) Uninitialized q))
          (right_other lsn (lsn + 1) f fs j (state_at ss j) (omega arith) (λ z. q (sym z ∙ own)) (c.right j))
    ];
    counted = omega (arith, ap fragments linked_put, fragments-put (pages fs ss n) i new_page, ap fragments_of page_before, one_more, c.counted);
  }

  -- one fragment more than there were
  pub fragments-linked : fragments (set (pages fs ss n) i (joined (get_or (pages fs ss n) i uninitialized) f.item)) ≡ live + 1
  fragments-linked = sym (ap fragments pages_linked) ∙ sym linked-consistent.counted

-- any other link leaves its page
joined_same : (fs : List Fragment) (i : ℕ) (x : Item) (s : PageState) → ((base : Item) (k : ℕ) → s ≡ Present base k → ⊥) → joined (page_of fs i s) x ≡ page_of fs i s
unfolding joined page_of
joined_same fs i x Uninitialized h = refl
joined_same fs i x (Free lsn ptr) h = refl
joined_same fs i x (Present base k) h = absurd (h base k refl)

pub joined-not : (ps : List Page) (i : ℕ) (x : Item) (fs : List Fragment) (s : PageState) → get_or ps i uninitialized ≡ page_of fs i s
    → ((base : Item) (k : ℕ) → s ≡ Present base k → ⊥) → set ps i (joined (get_or ps i uninitialized) x) ≡ ps
joined-not ps i x fs s e h = ap (set ps i) (ap (λ p. joined p x) e ∙ joined_same fs i x s h ∙ sym e) ∙ set-get_or ps i uninitialized
