-- The pass over the two tables of a snapshot, page by page. Assumes nothing.
--   own i low top fs     the fragments are those of page i, with rising LSNs, from `low` on and below `top`
--   behind i top s fs    the fragments behind those of page i, where these are its own and it is sound below `top`
--   passes i top ss fs   the fragments are those of the pages from page i on, and these are sound below `top`
use Rattle.std.specs.Prelude.{ℕ, ◌+◌, Bool, if◌then◌else◌, ◌&&◌, List, length, take, drop, Some, None, Option, nat_le, nat_lt}
use Rattle.pages.specs.declared.page_state.Fragment.{Fragment}
use Rattle.pages.specs.declared.page_state.PageState.{PageState}
use Rattle.pages.specs.declared.page_state.PageState.TheVariants.{Uninitialized, Free, Present}
use Rattle.pages.specs.Shown.{items, nested, all_of, tidy}
use Rattle.pages.specs.Snapshots.{rises_from, sound_pages}

unfoldable pub own : ℕ → ℕ → ℕ → List Fragment → Bool
own i low top fs = all_of i fs && rises_from low top (items fs)

abbrev pub behind : ℕ → ℕ → PageState → List Fragment → Option (List Fragment)
behind i top Uninitialized fs = Some fs
behind i top (Free lsn ptr) fs = if nat_lt lsn top then Some fs else None
behind i top (Present base n) fs =
    if nat_le n (length fs) && (nat_lt base.0 top && own i (base.0 + 1) top (take n fs)) then Some (drop n fs) else None

unfoldable pub passes : ℕ → ℕ → List PageState → List Fragment → Bool
passes i top ss fs = tidy i ss fs && sound_pages top (nested ss fs)
