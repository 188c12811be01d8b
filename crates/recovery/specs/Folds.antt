-- The last walk in the code. Assumes nothing.
--   folds low t rs       what records make of the pages in two tables
--   Took ..              what one record does, and what is answered
--   Foldable low t rs    records that rise, none of which lies below what the table has, but where it lies below `low`
--   fold_reply ..        what is answered of a walk: the first refusal of a page comes before a fault of the walk
--   Folded, Came ..      what a walk to its end leaves, and what is answered
--   reached_by v         where an iterator has come to
use Rattle.std.specs.Prelude.{◌≡◌, ℕ, suc, ◌<◌, ◌≤◌, max, List, ◌∷◌, length, None, Ok, Err, Option, Result}
use Rattle.messages.specs.declared.log_read.Record.{Record}
use Rattle.pages.specs.Pages.{Page, fold}
use Rattle.pages.specs.Rising.{Rising}
use Rattle.refusals.specs.declared.refusal.Refusal.{Refusal}
use Rattle.scan.specs.Order.{unless}
use Rattle.walks.specs.Walk.{Walked}
use Rattle.recovery.specs.Flat.{flat, Kept}
use Rattle.recovery.specs.State.{segment_of}
use Rattle.recovery.specs.declared.finish.Reached.{Reached}
use Rattle.recovery.specs.declared.iterator.LogIter.{LogIter}
use Rattle.recovery.specs.declared.page_table.PageTable.{PageTable}

abbrev pub folds : ℕ → PageTable → List Record → Result (List Page) Refusal
folds low t rs = fold (length t.states.now) (length t.fragments.now) low (flat t) rs

pub record Goes (low : ℕ) (r : Record) (t u : PageTable) : Type 0 where
  pub folds : (rs : List Record) → folds low t (r ∷ rs) ≡ folds low u rs
  pub skipped : r.lsn < low → u ≡ t
  pub kept : low ≤ r.lsn → Kept (suc r.lsn) u

abbrev pub Took : ℕ → Record → PageTable → PageTable → Result (Unit {0}) Refusal → Type 0
Took low r t u (Ok x) = Goes low r t u
Took low r t u (Err e) = (rs : List Record) → folds low t (r ∷ rs) ≡ Err e

pub record Foldable (low : ℕ) (t : PageTable) (rs : List Record) : Type 0 where
  pub top : ℕ
  pub from : ℕ
  pub over : ℕ
  pub kept : Kept top t
  pub below : top ≤ max low from
  pub rises : Rising from over rs

unfoldable pub fold_reply : Result (List Page) Refusal → Option Refusal → Result (Unit {0}) Refusal
fold_reply (Err f) o = Err f
fold_reply (Ok ps) o = unless o tt

-- the walk w from the table t on has ended, and left the table u
pub record Folded (low : ℕ) (t u : PageTable) (w : Walked) (r : Reached) : Type 0 where
  pub pages : folds low t w.records ≡ Ok (flat u)
  pub sound : w.fault ≡ None
  pub top : ℕ
  pub kept : Kept top u
  pub current : r.current ≡ w.current
  pub held : r.held ≡ w.held
  pub left : r.left.now ≡ w.left

abbrev pub Came : ℕ → PageTable → PageTable → Walked → Result Reached Refusal → Type 0
Came low t u w (Ok r) = Folded low t u w r
Came low t u w (Err f) = Err f ≡ fold_reply (folds low t w.records) w.fault

abbrev pub reached_by : {D B : Type 0} → LogIter D B → Reached
reached_by v = record { current = v.current; held = segment_of v.held; left = v.rest }
