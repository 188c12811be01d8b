-- Pages laid out in two tables, and two tables read as pages. Assumes nothing.
use Rattle.std.proofs.Common.{◌≡◌, ℕ, suc, ◌+◌, ◌≤◌, true, ◌&&◌, leb, List, [], ◌∷◌, ◌++◌, length, take, drop, sym, refl, ap, ◌∙◌, ap₂, append_assoc, append-nil, zero-add, arith, length-append}
use Rattle.std.proofs.lemmas.List.{take_at, drop_at, take-append-drop, length-take-le}
use Rattle.std.proofs.lemmas.Bool.{and_parts, and_from, leb-true, eqb-true, eq-eqb, le-leb, false≢true}
use Rattle.pages.specs.declared.page_state.Fragment.{Fragment}
use Rattle.pages.specs.declared.page_state.PageState.{PageState}
use Rattle.pages.specs.declared.page_state.PageState.TheVariants.{Uninitialized, Free, Present}
use Rattle.pages.specs.Pages.{Item, Page, uninitialized, free, present, fragments_of, fragments}
use Rattle.pages.specs.Shown.{state_of, states_of, tagged, laid_out, items, nested, all_of, none, tidy}

pub length_states : (ps : List Page) → length (states_of ps) ≡ length ps
unfolding states_of
length_states [] = refl
length_states (p ∷ ps) = ap suc (length_states ps)

pub length-nested : (ss : List PageState) (fs : List Fragment) → length (nested ss fs) ≡ length ss
unfolding nested
length-nested [] fs = refl
length-nested (Uninitialized ∷ ss) fs = ap suc (length-nested ss fs)
length-nested (Free lsn ptr ∷ ss) fs = ap suc (length-nested ss fs)
length-nested (Present base n ∷ ss) fs = ap suc (length-nested ss (drop n fs))

pub length-tagged : (i : ℕ) (xs : List Item) → length (tagged i xs) ≡ length xs
unfolding tagged
length-tagged i [] = refl
length-tagged i (x ∷ xs) = ap suc (length-tagged i xs)

pub length-items : (fs : List Fragment) → length (items fs) ≡ length fs
unfolding items
length-items [] = refl
length-items (f ∷ fs) = ap suc (length-items fs)

pub length-laid_out : (i : ℕ) (ps : List Page) → length (laid_out i ps) ≡ fragments ps
unfolding laid_out fragments fragments_of
length-laid_out i [] = refl
length-laid_out i (uninitialized ∷ ps) = length-laid_out (suc i) ps ∙ sym (zero-add (fragments ps))
length-laid_out i (free lsn ptr ∷ ps) = length-laid_out (suc i) ps ∙ sym (zero-add (fragments ps))
length-laid_out i (present base xs ∷ ps) =
    length-append (tagged i xs) (laid_out (suc i) ps) ∙ ap₂ (λ m n. m + n) (length-tagged i xs) (length-laid_out (suc i) ps)

items-tagged : (i : ℕ) (xs : List Item) → items (tagged i xs) ≡ xs
unfolding items tagged
items-tagged i [] = refl
items-tagged i (x ∷ xs) = ap (λ ys. x ∷ ys) (items-tagged i xs)

all-tagged : (i : ℕ) (xs : List Item) → all_of i (tagged i xs) ≡ true
unfolding all_of tagged
all-tagged i [] = refl
all-tagged i (x ∷ xs) = and_from _ _ (eq-eqb i i refl) (all-tagged i xs)

tagged-items : (i : ℕ) (fs : List Fragment) → all_of i fs ≡ true → tagged i (items fs) ≡ fs
unfolding all_of tagged items
tagged-items i [] e = refl
tagged-items i (f ∷ fs) e =
    let p = and_parts _ _ e in
    let t = tagged-items i fs p.1 in
    let q = eqb-true f.pid i p.0 in λ j. record { pid = sym q j; item = f.item } ∷ t j

-- pages laid out are read as those pages, whatever follows
pub nested-laid_out : (i : ℕ) (ps : List Page) (rest : List Fragment) → nested (states_of ps) (laid_out i ps ++ rest) ≡ ps
unfolding nested states_of state_of laid_out
nested-laid_out i [] rest = refl
nested-laid_out i (uninitialized ∷ ps) rest = ap (λ qs. uninitialized ∷ qs) (nested-laid_out (suc i) ps rest)
nested-laid_out i (free lsn ptr ∷ ps) rest = ap (λ qs. free lsn ptr ∷ qs) (nested-laid_out (suc i) ps rest)
nested-laid_out i (present base xs ∷ ps) rest =
    let on = laid_out (suc i) ps ++ rest in
    let n = length-tagged i xs in
    rw (append_assoc, take_at (tagged i xs) on (length xs) n, drop_at (tagged i xs) on (length xs) n)
    (ap₂ (λ ys qs. present base ys ∷ qs) (items-tagged i xs) (nested-laid_out (suc i) ps rest))

pub nested-laid_out_all : (i : ℕ) (ps : List Page) → nested (states_of ps) (laid_out i ps) ≡ ps
nested-laid_out_all i ps = ap (nested (states_of ps)) (sym (append-nil (laid_out i ps))) ∙ nested-laid_out i ps []

pub tidy-laid_out : (i : ℕ) (ps : List Page) → tidy i (states_of ps) (laid_out i ps) ≡ true
unfolding tidy none states_of state_of laid_out
tidy-laid_out i [] = refl
tidy-laid_out i (uninitialized ∷ ps) = tidy-laid_out (suc i) ps
tidy-laid_out i (free lsn ptr ∷ ps) = tidy-laid_out (suc i) ps
tidy-laid_out i (present base xs ∷ ps) =
    let on = laid_out (suc i) ps in
    let n = length-tagged i xs in
    let room : length xs ≤ length (tagged i xs ++ on) = simp length-append (omega arith) in
    rw (take_at (tagged i xs) on (length xs) n, drop_at (tagged i xs) on (length xs) n)
    (and_from _ _ (le-leb _ _ room) (and_from _ _ (all-tagged i xs) (tidy-laid_out (suc i) ps)))

-- what tidy tables say of a present page
pub tidy_parts : (i : ℕ) (base : Item) (n : ℕ) (ss : List PageState) (fs : List Fragment) → tidy i (Present base n ∷ ss) fs ≡ true
    → (n ≤ length fs) × (all_of i (take n fs) ≡ true) × (tidy (suc i) ss (drop n fs) ≡ true)
unfolding tidy
tidy_parts i base n ss fs e =
    let p = and_parts (leb n (length fs)) (all_of i (take n fs) && tidy (suc i) ss (drop n fs)) e in
    let q = and_parts (all_of i (take n fs)) (tidy (suc i) ss (drop n fs)) p.1 in (leb-true _ _ p.0, q.0, q.1)

none_nil : (fs : List Fragment) → none fs ≡ true → fs ≡ []
unfolding none
none_nil [] e = refl
none_nil (f ∷ fs) e = absurd (false≢true e)

-- two tidy tables are those of the pages that they are read as
pub states-nested : (i : ℕ) (ss : List PageState) (fs : List Fragment) → tidy i ss fs ≡ true → states_of (nested ss fs) ≡ ss
unfolding tidy nested states_of state_of
states-nested i [] fs e = refl
states-nested i (Uninitialized ∷ ss) fs e = ap (λ ts. Uninitialized ∷ ts) (states-nested (suc i) ss fs e)
states-nested i (Free lsn ptr ∷ ss) fs e = ap (λ ts. Free lsn ptr ∷ ts) (states-nested (suc i) ss fs e)
states-nested i (Present base n ∷ ss) fs e =
    let p = tidy_parts i base n ss fs e in
    ap₂ (λ m ts. Present base m ∷ ts) (length-items (take n fs) ∙ length-take-le n fs p.0) (states-nested (suc i) ss (drop n fs) p.2)

pub laid_out-nested : (i : ℕ) (ss : List PageState) (fs : List Fragment) → tidy i ss fs ≡ true → laid_out i (nested ss fs) ≡ fs
unfolding tidy nested laid_out
laid_out-nested i [] fs e = sym (none_nil fs e)
laid_out-nested i (Uninitialized ∷ ss) fs e = laid_out-nested (suc i) ss fs e
laid_out-nested i (Free lsn ptr ∷ ss) fs e = laid_out-nested (suc i) ss fs e
laid_out-nested i (Present base n ∷ ss) fs e =
    let p = tidy_parts i base n ss fs e in
    ap₂ (λ xs ys. xs ++ ys) (tagged-items i (take n fs) p.1) (laid_out-nested (suc i) ss (drop n fs) p.2)
    ∙ take-append-drop n fs

pub fragments-nested : (i : ℕ) (ss : List PageState) (fs : List Fragment) → tidy i ss fs ≡ true → fragments (nested ss fs) ≡ length fs
fragments-nested i ss fs e = sym (length-laid_out i (nested ss fs)) ∙ ap length (laid_out-nested i ss fs e)

pub ruleset fragments_counted = (fragments-nested, length-nested)
