-- Pages as the two tables of a snapshot show them (docs/RECOVERY.md, "Memory of a recover"). Assumes nothing.
--   state_of p, states_of ps    a page's entry in the page table, and those of all
--   tagged i items              the fragments of page i
--   laid_out i ps               the fragments of the pages from page i on, page by page
--   nested states fs            the pages that two tables show
--   tidy i states fs            the fragments are those of the pages, page by page, and no more
use Rattle.std.specs.Prelude.{ℕ, suc, Bool, true, false, ◌&&◌, List, [], ◌∷◌, ◌++◌, length, take, drop, ◌==◌, nat_le}
use Rattle.pages.specs.declared.page_state.Fragment.{Fragment}
use Rattle.pages.specs.declared.page_state.PageState.{PageState}
use Rattle.pages.specs.declared.page_state.PageState.TheVariants.{Uninitialized, Free, Present}
use Rattle.pages.specs.Pages.{Item, Page, uninitialized, free, present}

unfoldable pub state_of : Page → PageState
state_of uninitialized = Uninitialized
state_of (free lsn ptr) = Free lsn ptr
state_of (present base items) = Present base (length items)

unfoldable pub states_of : List Page → List PageState
states_of [] = []
states_of (p ∷ ps) = state_of p ∷ states_of ps

unfoldable pub tagged : ℕ → List Item → List Fragment
tagged i [] = []
tagged i (x ∷ xs) = record { pid = i; item = x } ∷ tagged i xs

unfoldable pub laid_out : ℕ → List Page → List Fragment
laid_out i [] = []
laid_out i (uninitialized ∷ ps) = laid_out (suc i) ps
laid_out i (free lsn ptr ∷ ps) = laid_out (suc i) ps
laid_out i (present base items ∷ ps) = tagged i items ++ laid_out (suc i) ps

unfoldable pub items : List Fragment → List Item
items [] = []
items (f ∷ fs) = f.item ∷ items fs

unfoldable pub nested : List PageState → List Fragment → List Page
nested [] fs = []
nested (Uninitialized ∷ ss) fs = uninitialized ∷ nested ss fs
nested (Free lsn ptr ∷ ss) fs = free lsn ptr ∷ nested ss fs
nested (Present base n ∷ ss) fs = present base (items (take n fs)) ∷ nested ss (drop n fs)

unfoldable pub all_of : ℕ → List Fragment → Bool
all_of i [] = true
all_of i (f ∷ fs) = f.pid == i && all_of i fs

unfoldable pub none : List Fragment → Bool
none [] = true
none (f ∷ fs) = false

unfoldable pub tidy : ℕ → List PageState → List Fragment → Bool
tidy i [] fs = none fs
tidy i (Uninitialized ∷ ss) fs = tidy (suc i) ss fs
tidy i (Free lsn ptr ∷ ss) fs = tidy (suc i) ss fs
tidy i (Present base n ∷ ss) fs = nat_le n (length fs) && (all_of i (take n fs) && tidy (suc i) ss (drop n fs))
