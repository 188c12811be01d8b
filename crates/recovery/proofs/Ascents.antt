-- Fragments in the order of their pages and then of their LSNs. Assumes nothing.
--   Later f g        g does not stand before f in this order
--   Ascending fs     the fragments are in this order
--   Rise fs          each LSN is above those before it
--   Level fs         no LSN is below one before it
use Rattle.std.proofs.Common.{◌≡◌, ℕ, suc, ◌+◌, ◌<◌, ◌≤◌, Bool, true, false, cond, leb, ◌⊎◌, List, [], ◌∷◌, length, get_or, sym, refl, ap, ◌∙◌, ap₂, subst, inl, inr, ⊎_elim, arith}
use Rattle.std.proofs.lemmas.Bool.{false≢true}
use Rattle.std.proofs.lemmas.Bool.Decides.{nat_tests}
use Rattle.std.proofs.lemmas.List.Elements.{All-nil, All-cons, All-head, All-tail, All-weaker, All-filter}
use Rattle.std.proofs.lemmas.List.Sums.{sum_by-cons}
use Rattle.std.specs.List.{All, filter, sum_by}
use Rattle.std.proofs.lemmas.List.Sorted.{All-permutation, sum_by-IsPermutation}
use Rattle.std.specs.List.Sorted.{IsPermutation}
use Rattle.std.specs.Ordering.{is_lt}
use Rattle.pages.specs.declared.page_state.Fragment.{Fragment}
use Rattle.pages.specs.Shown.{items}
use Rattle.pages.specs.Snapshots.{rises_from}
use Rattle.recovery.specs.Flat.{of_page, by_page_and_lsn}
use Rattle.recovery.proofs.Flats.{filter_true, filter_false}

pub record Later (f g : Fragment) : Type 0 where
  pub page : f.pid ≤ g.pid
  pub lsn : f.pid ≡ g.pid → f.item.0 ≤ g.item.0

abbrev pub Ascending : List Fragment → Type 0
Ascending [] = Unit {0}
Ascending (f ∷ fs) = All (Later f) fs × Ascending fs

abbrev pub Above : ℕ → Fragment → Type 0
Above lsn f = lsn < f.item.0

abbrev pub Rise : List Fragment → Type 0
Rise [] = Unit {0}
Rise (f ∷ fs) = All (Above f.item.0) fs × Rise fs

abbrev NotBelow : ℕ → Fragment → Type 0
NotBelow lsn f = lsn ≤ f.item.0

abbrev Level : List Fragment → Type 0
Level [] = Unit {0}
Level (f ∷ fs) = All (NotBelow f.item.0) fs × Level fs

-- ---- from neighbours to all
pub later_test : (f g : Fragment) → is_lt (by_page_and_lsn (g.pid, g.item.0) (f.pid, f.item.0)) ≡ false → Later f g
later_test f g e = record { page = grind (arith, nat_tests); lsn = λ q. grind (arith, nat_tests) }

later_trans : (f g h : Fragment) → Later f g → Later g h → Later f h
later_trans f g h a b = record { page = omega (arith, a.page, b.page); lsn = λ q. omega (arith, a.page, b.page, a.lsn (omega (arith, a.page, b.page)), b.lsn (omega (arith, a.page, b.page))) }

pub ascending : (fs : List Fragment) → ((k : ℕ) (d : Fragment) → suc k < length fs → Later (get_or fs k d) (get_or fs (suc k) d)) → Ascending fs
ascending [] h = tt
ascending (f ∷ []) h = (All-nil (Later f), tt)
ascending (f ∷ g ∷ fs) h =
    let ih = ascending (g ∷ fs) (λ k d l. h (suc k) d (omega arith)) in
    let first : Later f g = h 0 f (omega arith) in
    (All-cons (Later f) g fs first (All-weaker (Later g) (Later f) (λ x. later_trans f g x first) fs ih.0), ih)

-- ---- filters
pub into_filter : (P : Fragment → Type 0) (p : Fragment → Bool) (fs : List Fragment) → All (λ f. p f ≡ true → P f) fs → All P (filter p fs)
into_filter P p [] a = All-nil P
into_filter P p (f ∷ fs) a = go (into_filter P p fs (All-tail (λ f. p f ≡ true → P f) f fs a)) (p f) refl
  where
    go : All P (filter p fs) → (b : Bool) → p f ≡ b → All P (filter p (f ∷ fs))
    go ih true e = subst (All P) (sym (filter_true p f fs e)) (All-cons P f (filter p fs) (All-head (λ f. p f ≡ true → P f) f fs a e) ih)
    go ih false e = subst (All P) (sym (filter_false p f fs e)) ih

out_of_filter : (P : Fragment → Type 0) (p : Fragment → Bool) (fs : List Fragment) → All P (filter p fs) → All (λ f. p f ≡ true → P f) fs
out_of_filter P p [] a = All-nil (λ f. p f ≡ true → P f)
out_of_filter P p (f ∷ fs) a = go (out_of_filter P p fs) (p f) refl
  where
    go : (All P (filter p fs) → All (λ f. p f ≡ true → P f) fs) → (b : Bool) → p f ≡ b → All (λ f. p f ≡ true → P f) (f ∷ fs)
    go ih true e =
        let l = subst (All P) (filter_true p f fs e) a in
        All-cons (λ f. p f ≡ true → P f) f fs (λ q. All-head P f (filter p fs) l) (ih (All-tail P f (filter p fs) l))
    go ih false e = All-cons (λ f. p f ≡ true → P f) f fs (λ q. absurd (false≢true (sym e ∙ q))) (ih (subst (All P) (filter_false p f fs e) a))

sum_by-filter : (h : Fragment → ℕ) (p : Fragment → Bool) (fs : List Fragment) → sum_by h (filter p fs) ≡ sum_by (λ f. cond (p f) (h f) 0) fs
sum_by-filter h p [] = refl
sum_by-filter h p (f ∷ fs) = go (sum_by-filter h p fs) (p f) refl
  where
    go : sum_by h (filter p fs) ≡ sum_by (λ f. cond (p f) (h f) 0) fs → (b : Bool) → p f ≡ b → sum_by h (filter p (f ∷ fs)) ≡ sum_by (λ f. cond (p f) (h f) 0) (f ∷ fs)
    go ih true e =
        let z : cond (p f) (h f) 0 ≡ h f = ap (λ b. cond b (h f) 0) e in
        omega (arith, ap (sum_by h) (filter_true p f fs e), sum_by-cons h f (filter p fs), sum_by-cons (λ g. cond (p g) (h g) 0) f fs)
    go ih false e =
        let z : cond (p f) (h f) 0 ≡ 0 = ap (λ b. cond b (h f) 0) e in omega (arith, ap (sum_by h) (filter_false p f fs e), sum_by-cons (λ g. cond (p g) (h g) 0) f fs)

-- ---- fragments of one page
pub ascending_filter : (p : Fragment → Bool) (fs : List Fragment) → Ascending fs → Ascending (filter p fs)
ascending_filter p [] a = tt
ascending_filter p (f ∷ fs) a = go (ascending_filter p fs a.1) (p f) refl
  where
    go : Ascending (filter p fs) → (b : Bool) → p f ≡ b → Ascending (filter p (f ∷ fs))
    go ih true e = subst Ascending (sym (filter_true p f fs e)) (All-filter p (Later f) fs a.0, ih)
    go ih false e = subst Ascending (sym (filter_false p f fs e)) ih

level : (i : ℕ) (fs : List Fragment) → Ascending fs → All (λ f. f.pid ≡ i) fs → Level fs
level i [] a o = tt
level i (f ∷ fs) a o =
    let here : f.pid ≡ i = All-head (λ f. f.pid ≡ i) f fs o in
    let rest = All-tail (λ f. f.pid ≡ i) f fs o in
    (λ k d l. (a.0 k d l).lsn (here ∙ sym (rest k d l)), level i fs a.1 rest)

pub of_page-pid : (i low : ℕ) (f : Fragment) → of_page i low f ≡ true → f.pid ≡ i
unfolding of_page
of_page-pid i low f e = grind (arith, nat_tests)

pub level_filter : (i low : ℕ) (fs : List Fragment) → Ascending fs → Level (filter (of_page i low) fs)
level_filter i low fs a =
    level i (filter (of_page i low) fs) (ascending_filter (of_page i low) fs a) (into_filter (λ f. f.pid ≡ i) (of_page i low) fs (λ k d l. of_page-pid i low (get_or fs k d)))

-- LSNs of a sound page rise
not_below : (low top : ℕ) (fs : List Fragment) → rises_from low top (items fs) ≡ true → All (NotBelow low) fs
unfolding rises_from items
not_below low top [] r = All-nil (NotBelow low)
not_below low top (f ∷ fs) r =
    let h : low ≤ f.item.0 = grind (arith, nat_tests) in
    let t : rises_from (f.item.0 + 1) top (items fs) ≡ true = grind (arith, nat_tests) in
    All-cons (NotBelow low) f fs h (All-weaker (NotBelow (f.item.0 + 1)) (NotBelow low) (λ g l. omega arith) fs (not_below (f.item.0 + 1) top fs t))

pub rise : (low top : ℕ) (fs : List Fragment) → rises_from low top (items fs) ≡ true → Rise fs
unfolding rises_from items
rise low top [] r = tt
rise low top (f ∷ fs) r =
    let t : rises_from (f.item.0 + 1) top (items fs) ≡ true = grind (arith, nat_tests) in
    (All-weaker (NotBelow (f.item.0 + 1)) (Above f.item.0) (λ g l. omega arith) fs (not_below (f.item.0 + 1) top fs t), rise (f.item.0 + 1) top fs t)

-- ---- of two lists with the same fragments, one that rises and one that is level are the same
up_to : ℕ → Fragment → ℕ
up_to lsn f = cond (leb f.item.0 lsn) 1 0

up_to-own : (f : Fragment) → up_to f.item.0 f ≡ 1
unfolding up_to
up_to-own f = grind (arith, nat_tests)

up_to-above : (lsn : ℕ) (f : Fragment) → lsn < f.item.0 → up_to lsn f ≡ 0
unfolding up_to
up_to-above lsn f h = grind (arith, nat_tests)

above_up_to : (lsn : ℕ) (f : Fragment) → up_to lsn f ≡ 0 → lsn < f.item.0
unfolding up_to
above_up_to lsn f e = grind (arith, nat_tests)

none_up_to : (lsn : ℕ) (fs : List Fragment) → All (Above lsn) fs → sum_by (up_to lsn) fs ≡ 0
none_up_to lsn [] a = refl
none_up_to lsn (f ∷ fs) a = omega (arith, sum_by-cons (up_to lsn) f fs, up_to-above lsn f (All-head (Above lsn) f fs a), none_up_to lsn fs (All-tail (Above lsn) f fs a))

all_above : (lsn : ℕ) (fs : List Fragment) → sum_by (up_to lsn) fs ≡ 0 → All (Above lsn) fs
all_above lsn [] e = All-nil (Above lsn)
all_above lsn (f ∷ fs) e =
    let z = sum_by-cons (up_to lsn) f fs in All-cons (Above lsn) f fs (above_up_to lsn f (omega arith)) (all_above lsn fs (omega arith))

-- gs has the fragments of fs, each as often
pub record Alike (fs gs : List Fragment) : Type 1 where
  pub all : (P : Fragment → Type 0) → All P fs → All P gs
  pub sums : (h : Fragment → ℕ) → sum_by h gs ≡ sum_by h fs

both : (P Q R : Fragment → Type 0) (fs : List Fragment) → ((f : Fragment) → P f → Q f → R f) → All P fs → All Q fs → All R fs
both P Q R fs h a b k d l = h (get_or fs k d) (a k d l) (b k d l)

module _ (f : Fragment) (fs : List Fragment) (g : Fragment) (gs : List Fragment) (s : Alike (f ∷ fs) (g ∷ gs)) (r : All (Above f.item.0) fs) (l : All (NotBelow g.item.0) gs) where
  SameOrAbove : Fragment → Type 0
  SameOrAbove h = (h ≡ f) ⊎ Above f.item.0 h

  -- the first of both
  first_same : g ≡ f
  unfolding SameOrAbove
  first_same = go (All-head SameOrAbove g gs (s.all SameOrAbove (All-cons SameOrAbove f fs (inl refl) (All-weaker (Above f.item.0) SameOrAbove (λ h a. inr a) fs r))))
    where
      go : SameOrAbove g → g ≡ f
      go (inl e) = e
      go (inr a) =
          let z = none_up_to f.item.0 gs (All-weaker (NotBelow g.item.0) (Above f.item.0) (λ h b. omega arith) gs l) in
          absurd (omega (arith, s.sums (up_to f.item.0), sum_by-cons (up_to f.item.0) f fs, sum_by-cons (up_to f.item.0) g gs, up_to-own f, up_to-above f.item.0 g a))

  rest_above : All (Above f.item.0) gs
  rest_above =
      all_above f.item.0 gs
      (omega (arith, s.sums (up_to f.item.0), sum_by-cons (up_to f.item.0) f fs, sum_by-cons (up_to f.item.0) g gs, ap (up_to f.item.0) first_same, none_up_to f.item.0 fs r))

  rest_alike : Alike fs gs
  rest_alike = record {
    all = λ P a.
        both (λ h. (h ≡ f) ⊎ P h) (Above f.item.0) P gs (λ h o b. ⊎_elim (λ (e : h ≡ f). absurd (omega (arith, ap (λ (x : Fragment). x.item.0) e))) (λ (q : P h). q) o)
        (All-tail (λ h. (h ≡ f) ⊎ P h) g gs (s.all (λ h. (h ≡ f) ⊎ P h) (All-cons (λ h. (h ≡ f) ⊎ P h) f fs (inl refl) (All-weaker P (λ h. (h ≡ f) ⊎ P h) (λ h q. inr q) fs a)))) rest_above;
    sums = λ h. omega (arith, s.sums h, sum_by-cons h f fs, sum_by-cons h g gs, ap h first_same);
  }

pub same : (fs gs : List Fragment) → Rise fs → Level gs → Alike fs gs → gs ≡ fs
same [] [] r l s = refl
same [] (g ∷ gs) r l s = absurd (omega (arith, s.sums (λ h. 1), sum_by-cons (λ (h : Fragment). 1) g gs))
same (f ∷ fs) [] r l s = absurd (omega (arith, s.sums (λ h. 1), sum_by-cons (λ (h : Fragment). 1) f fs))
same (f ∷ fs) (g ∷ gs) r l s = ap₂ (λ x xs. x ∷ xs) (first_same f fs g gs s r.0 l.0) (same fs gs r.1 l.1 (rest_alike f fs g gs s r.0 l.0))

pub alike_filter : (p : Fragment → Bool) (fs gs : List Fragment) → IsPermutation fs gs → Alike (filter p fs) (filter p gs)
alike_filter p fs gs m = record {
  all = λ P a. into_filter P p gs (All-permutation (λ f. p f ≡ true → P f) fs gs m (out_of_filter P p fs a));
  sums = λ h. sum_by-filter h p gs ∙ sum_by-IsPermutation (λ f. cond (p f) (h f) 0) fs gs m ∙ sym (sum_by-filter h p fs);
}
