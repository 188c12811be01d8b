-- A recover in the code: what it answers, and what it leaves in the result tables. Assumes nothing.
--   lent ..               how much memory is lent
--   recover_of ..         a recovery from a snapshot in memory, with memory lent
--   reply_of x            what is answered of the end of a recovery
--   Formed ..             a snapshot made of the reply and the result tables is well formed
--   Attempted ..          what is answered of it, what the device means then, and what stands in the result tables
--   states_left n x       what a page table of n entries holds then
--   fragments_left n x    what a fragment table of n entries holds then
use Rattle.std.specs.Prelude.{◌≡◌, ℕ, ◌-◌, List, [], ◌++◌, length, take, replicate, true, Ok, Err, Option, Result, OnOk}
use Rattle.blobs.specs.declared.note.Note.{Note}
use Rattle.device.specs.Meaning.{Meaning, Alike}
use Rattle.pages.specs.Pages.{Page, fragments}
use Rattle.pages.specs.Shown.{states_of, laid_out, nested, tidy}
use Rattle.pages.specs.Snapshots.{snap_of, well_formed}
use Rattle.pages.specs.declared.page_state.Fragment.{Fragment}
use Rattle.pages.specs.declared.page_state.PageState.{PageState}
use Rattle.pages.specs.declared.page_state.PageState.TheVariants.{Uninitialized}
use Rattle.pages.specs.declared.snapshot.Snapshot.{Snapshot}
use Rattle.refusals.specs.declared.refusal.Refusal.{Refusal}
use Rattle.walks.specs.Finish.{Ended}
use Rattle.walks.specs.Recover.{Budget, recovered, left}
use Rattle.recovery.specs.Flat.{blank, Settled}
use Rattle.recovery.specs.declared.page_table.PageTable.{PageTable}
use Rattle.recovery.specs.declared.recovered.Recovered.{Recovered}

abbrev pub lent : ℕ → ℕ → ℕ → ℕ → ℕ → Budget
lent segment body order pages fragments = record { segment = segment; body = body; order = order; pages = pages; fragments = fragments }

abbrev pub recover_of : (ℕ → Option Note) → Meaning → ℕ → Snapshot → Budget → Result Ended Refusal
recover_of notes device size given budget = recovered notes device size (tidy 0 given.pages.now given.fragments.now) (snap_of given) budget

unfoldable pub reply_of : Result Ended Refusal → Result Recovered Refusal
reply_of (Err f) = Err f
reply_of (Ok e) = Ok (record { stable_lsn = e.snap.stable; active_segment = e.snap.active; pages = length e.snap.pages; fragments = fragments e.snap.pages })

unfoldable pub pages_of : Result Ended Refusal → List Page
pages_of (Err f) = []
pages_of (Ok e) = e.snap.pages

pub record Attempted (size : ℕ) (before after : Meaning) (t : PageTable) (x : Result Ended Refusal) (r : Result Recovered Refusal) : Type 0 where
  pub reply : r ≡ reply_of x
  pub device : Alike after (left before x)
  pub pages : OnOk r (Settled (pages_of x) t)
  pub formed : (e : Ended) → x ≡ Ok e → well_formed size e.snap ≡ true

-- entries not in use are uninitialized, all of them at a refusal
unfoldable pub states_left : ℕ → Result Ended Refusal → List PageState
states_left n x = states_of (pages_of x) ++ replicate (n - length (pages_of x)) Uninitialized

unfoldable pub fragments_left : ℕ → Result Ended Refusal → List Fragment
fragments_left n x = laid_out 0 (pages_of x) ++ replicate (n - fragments (pages_of x)) blank

-- the snapshot given out is well formed
abbrev pub Formed : ℕ → Result Recovered Refusal → List PageState → List Fragment → Type 0
Formed size (Err f) ps fs = Unit {0}
Formed size (Ok r) ps fs =
    (tidy 0 (take r.pages ps) (take r.fragments fs) ≡ true)
    × (well_formed size (record { stable = r.stable_lsn; active = r.active_segment; pages = nested (take r.pages ps) (take r.fragments fs) }) ≡ true)

-- what a recover answers, and what it leaves of the device and in the result tables
pub record Recovers (size : ℕ) (before after : Meaning) (x : Result Ended Refusal) (r : Result Recovered Refusal) (ps : List PageState) (fs : List Fragment) : Type 0 where
  pub reply : r ≡ reply_of x
  pub device : Alike after (left before x)
  pub pages : ps ≡ states_left (length ps) x
  pub fragments : fs ≡ fragments_left (length fs) x
  pub formed : Formed size r ps fs
