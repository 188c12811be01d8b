-- The pages in the two result tables, while fragments are appended as records come. Assumes nothing.
--   of_page i low f       whether a fragment is one of page i that is newer than the LSN `low`
--   page_of fs i s        page i, of which the table has the state s
--   pages fs ss n         pages 0 to n - 1, of which the table has the states ss
--   in_use t, flat t      the fragments in use, and the pages that they and the states show
--   fragments_in s        how many fragments a state says that its page has
--   alive ss f            whether a fragment belongs to a page as it is now
--   Right ..              what is said of a page is so: its base lies below `top`, and the number of its fragments is right
--   Kept top t            what holds of a table between records, where all LSNs lie below `top`
--   SameTables t u        the tables are the same, in their place and length
--   blank                 the fragment behind those in use, once the tables are cleared or in order
--   Cleared t             what `clear` leaves
--   Given top s           what is asked of a snapshot that is loaded
--   InOrder fs gs         the fragments gs are fs in the order of their pages, and then of their LSNs
--   Settled ps t          what `settle` leaves of the pages ps
--   renewed, appended, Compacted, Roomy    what the steps of `apply` leave
use Rattle.std.specs.Prelude.{◌≡◌, ℕ, ◌+◌, ◌-◌, ◌<◌, ◌≤◌, max, Bool, true, false, ◌&&◌, List, ◌++◌, map, length, take, replicate, ◌==◌, nat_lt, slice_index_or, slice_set}
use Rattle.std.specs.List.{All, filter, range_with_len}
use Rattle.std.specs.List.Sorted.{IsPermutation, IsSortedByKey}
use Rattle.std.specs.Ordering.{nat_cmp, ordering_then}
use Rattle.std.specs.declared.cmp.Ordering.{Ordering}
use Rattle.pages.specs.declared.page_state.Fragment.{Fragment}
use Rattle.pages.specs.declared.page_state.PageState.{PageState}
use Rattle.pages.specs.declared.page_state.PageState.TheVariants.{Uninitialized, Free, Present}
use Rattle.pages.specs.declared.snapshot.Snapshot.{Snapshot}
use Rattle.pages.specs.Pages.{Page, uninitialized, free, present, fragments}
use Rattle.pages.specs.Shown.{states_of, laid_out, items, nested, tidy}
use Rattle.pages.specs.Snapshots.{sound_pages}
use Rattle.messages.specs.declared.disk_pointer.DiskPtr.TheVariants.{Inline}
use Rattle.recovery.specs.declared.page_table.PageTable.{PageTable}

unfoldable pub of_page : ℕ → ℕ → Fragment → Bool
of_page i low f = f.pid == i && nat_lt low f.item.0

unfoldable pub page_of : List Fragment → ℕ → PageState → Page
page_of fs i Uninitialized = uninitialized
page_of fs i (Free lsn ptr) = free lsn ptr
page_of fs i (Present base n) = present base (items (filter (of_page i base.0) fs))

abbrev pub state_at : List PageState → ℕ → PageState
state_at ss i = slice_index_or ss i Uninitialized

unfoldable pub pages : List Fragment → List PageState → ℕ → List Page
pages fs ss n = map (λ i. page_of fs i (state_at ss i)) (range_with_len 0 n)

abbrev pub in_use : PageTable → List Fragment
in_use t = take t.used t.fragments.now

abbrev pub flat : PageTable → List Page
flat t = pages (in_use t) t.states.now t.count

unfoldable pub fragments_in : PageState → ℕ
fragments_in Uninitialized = 0
fragments_in (Free lsn ptr) = 0
fragments_in (Present base n) = n

unfoldable pub newer : PageState → ℕ → Bool
newer Uninitialized lsn = false
newer (Free low ptr) lsn = false
newer (Present base n) lsn = nat_lt base.0 lsn

unfoldable pub alive : List PageState → Fragment → Bool
alive ss f = newer (state_at ss f.pid) f.item.0

abbrev pub Right : ℕ → List Fragment → ℕ → PageState → Type 0
Right top fs i Uninitialized = Unit {0}
Right top fs i (Free lsn ptr) = Unit {0}
Right top fs i (Present base n) = (base.0 < top) × (n ≡ length (filter (of_page i base.0) fs))

-- fragments, and states of which the first n are those of pages
pub record Consistent (top : ℕ) (fs : List Fragment) (ss : List PageState) (n live : ℕ) : Type 0 where
  pub blank : (i : ℕ) → n ≤ i → state_at ss i ≡ Uninitialized
  pub below : All (λ f. f.item.0 < top) fs
  pub right : (i : ℕ) → Right top fs i (state_at ss i)
  pub counted : live ≡ fragments (pages fs ss n)

pub record Kept (top : ℕ) (t : PageTable) : Type 0 where
  pub count : t.count ≤ length t.states.now
  pub used : t.used ≤ length t.fragments.now
  pub live : t.live ≤ length t.fragments.now
  pub consistent : Consistent top (in_use t) t.states.now t.count t.live
  pub sound : sound_pages top (flat t) ≡ true

pub record SameTables (t u : PageTable) : Type 0 where
  pub states : u.states.ghost_name ≡ t.states.ghost_name
  pub fragments : u.fragments.ghost_name ≡ t.fragments.ghost_name
  pub states_size : length u.states.now ≡ length t.states.now
  pub fragments_size : length u.fragments.now ≡ length t.fragments.now

-- with the state s of page i in the place of what there was of it
abbrev pub renewed : PageTable → ℕ → PageState → PageTable
renewed t i s = record t {
  states = record t.states { now = slice_set t.states.now i s };
  count = max t.count (i + 1);
  live = t.live - fragments_in (state_at t.states.now i);
}

-- with one fragment more in use, and the state s of its page
abbrev pub appended : PageTable → Fragment → PageState → PageTable
appended t f s = record t {
  states = record t.states { now = slice_set t.states.now f.pid s };
  fragments = record t.fragments { now = slice_set t.fragments.now t.used f };
  used = t.used + 1;
  live = t.live + 1;
}

unfoldable pub blank : Fragment
blank = record { pid = 0; item = (0, Inline 0, 0) }

pub record Cleared (t : PageTable) : Type 0 where
  pub states : t.states.now ≡ replicate (length t.states.now) Uninitialized
  pub fragments : t.fragments.now ≡ replicate (length t.fragments.now) blank
  pub count : t.count ≡ 0
  pub used : t.used ≡ 0
  pub live : t.live ≡ 0

-- a snapshot whose pages are sound below `top`, and whose fragments are theirs
pub record Given (top : ℕ) (s : Snapshot) : Type 0 where
  pub tidy : tidy 0 s.pages.now s.fragments.now ≡ true
  pub sound : sound_pages top (nested s.pages.now s.fragments.now) ≡ true

abbrev pub by_page_and_lsn : ℕ × ℕ → ℕ × ℕ → Ordering
by_page_and_lsn a b = ordering_then (nat_cmp a.0 b.0) (nat_cmp a.1 b.1)

-- the same fragments, by page and then by LSN
pub record InOrder (fs gs : List Fragment) : Type 0 where
  pub permutation : IsPermutation fs gs
  pub sorted : IsSortedByKey (λ f. (f.pid, f.item.0)) by_page_and_lsn gs

-- the pages ps in order
pub record Settled (ps : List Page) (t : PageTable) : Type 0 where
  pub count : t.count ≡ length ps
  pub used : t.used ≡ fragments ps
  pub live : t.live ≡ fragments ps
  pub states : t.states.now ≡ states_of ps ++ replicate (length t.states.now - length ps) Uninitialized
  pub fragments : t.fragments.now ≡ laid_out 0 ps ++ replicate (length t.fragments.now - fragments ps) blank

-- with no fragments in use but those that are alive
pub record Compacted (t u : PageTable) : Type 0 where
  pub in_use : in_use u ≡ filter (alive t.states.now) (in_use t)
  pub used : u.used ≤ t.used
  pub states : u.states ≡ t.states
  pub count : u.count ≡ t.count
  pub live : u.live ≡ t.live
  pub size : length u.fragments.now ≡ length t.fragments.now
  pub lender : u.fragments.ghost_name ≡ t.fragments.ghost_name

-- with the same pages, and room for a fragment
pub record Roomy (top : ℕ) (t u : PageTable) : Type 0 where
  pub kept : Kept top u
  pub pages : flat u ≡ flat t
  pub room : u.used < length u.fragments.now
  pub states : u.states ≡ t.states
  pub live : u.live ≡ t.live
  pub size : length u.fragments.now ≡ length t.fragments.now
  pub lender : u.fragments.ghost_name ≡ t.fragments.ghost_name
