-- A recovery from a device, a blob source and a snapshot: its refusals in their order, and what it comes to
-- (docs/RECOVERY.md, "Steps of a recover", and docs/REFUSALS.md, "Order of checks"). Assumes nothing.
--   Budget              how large the lent buffers and tables are
--   checked tests       the first test that applies
--   at_first, at_last   the tests before the scan, and before the writes
--   recovered ..        the end of the recovery, or the refusal
--   left ..             what it leaves of the device
use Rattle.std.specs.Prelude.{ℕ, ◌+◌, ◌*◌, ◌/◌, Bool, true, false, not, ◌&&◌, ◌||◌, List, [], ◌∷◌, length, Some, None, Ok, Err, Option, Result, ◌==◌, nat_lt}
use Rattle.blobs.specs.declared.note.Note.{Note}
use Rattle.device.specs.Meaning.{Meaning, zeroed, needs}
use Rattle.layout.specs.Sizes.{is_segment_size, counted}
use Rattle.pages.specs.Pages.{Page, fragments, fold}
use Rattle.pages.specs.Snapshots.{Snap, well_formed}
use Rattle.refusals.specs.declared.refusal.Refusal.{Refusal}
use Rattle.refusals.specs.declared.refusal.Refusal.TheVariants.{Size, Buffer, Segments, Snapshot, PageNumber, Fragments, StableFell, NoSpare}
use Rattle.scan.specs.Order.{Gathered, gathered}
use Rattle.walks.specs.Finish.{Ended, finish}
use Rattle.walks.specs.Walk.{Walked}
use Rattle.walks.specs.Walks.{walks}

pub record Budget : Type 0 where
  pub segment : ℕ
  pub body : ℕ
  pub order : ℕ
  pub pages : ℕ
  pub fragments : ℕ

unfoldable pub checked : List (Bool × Refusal) → Option Refusal
checked [] = None
checked (t ∷ ts) = elim t.0 [ true ↦ Some t.1 | false ↦ checked ts ]

unfoldable pub or_zero : Option ℕ → ℕ
or_zero None = 0
or_zero (Some n) = n

-- the minimum: the stable LSN given, rounded down
unfoldable pub lowest : ℕ → Option ℕ → ℕ
lowest size stable = or_zero stable / size * size

-- an active segment that passes the capacity
unfoldable pub passes : ℕ → ℕ → Option ℕ → Bool
passes size capacity None = false
passes size capacity (Some place) = nat_lt capacity (place + size)

unfoldable pub places : List (ℕ × ℕ) → List ℕ
places [] = []
places (z ∷ zs) = z.0 ∷ places zs

-- `laid` says that the tables of the snapshot given hold its fragments page by page
module _ (notes : ℕ → Option Note) (device : Meaning) (size : ℕ) (laid : Bool) (given : Snap) (budget : Budget) where
  abbrev pub count : ℕ
  count = counted (length device.bytes) size

  unfoldable pub at_first : List (Bool × Refusal)
  at_first =
      (not (is_segment_size size && size == device.block_size), Size)
      ∷ (nat_lt budget.segment size || (nat_lt budget.body size || nat_lt budget.order count), Buffer)
      ∷ (nat_lt 1024 count || nat_lt device.capacity (count * size), Segments)
      ∷ (not (laid && well_formed size given) || passes size device.capacity given.active, Snapshot)
      ∷ (nat_lt budget.pages (length given.pages), PageNumber None)
      ∷ (nat_lt budget.fragments (fragments given.pages), Fragments None) ∷ []

  unfoldable pub at_last : Ended → List (Bool × Refusal)
  at_last e =
      (nat_lt (or_zero e.snap.stable) (or_zero given.stable), StableFell)
      ∷ (nat_lt device.spare (needs device (places e.zeros)), NoSpare) ∷ []

  unfoldable pub closed : Ended → Result Ended Refusal
  closed e = elim (checked (at_last e)) [ Some f ↦ Err f | None ↦ Ok e ]

  -- a page's fault comes before one that the walk meets later
  unfoldable pub folded : Walked → Result (List Page) Refusal → Result Ended Refusal
  folded w (Err f) = Err f
  folded w (Ok ps) = elim w.fault [ Some f ↦ Err f | None ↦ closed (finish size given ps w) ]

  unfoldable pub walked : Walked → Result Ended Refusal
  walked w = folded w (fold budget.pages budget.fragments (or_zero given.stable) given.pages w.records)

  unfoldable pub ordered : Gathered → Result Ended Refusal
  ordered g = elim g.fault [ Some f ↦ Err f | None ↦ walked (walks notes size device.bytes (lowest size given.stable) g.segments) ]

  unfoldable pub recovered : Result Ended Refusal
  recovered = elim (checked at_first) [ Some f ↦ Err f | None ↦ ordered (gathered size device.bytes (lowest size given.stable)) ]

-- a refusal changes nothing
unfoldable pub left : Meaning → Result Ended Refusal → Meaning
left device (Err f) = device
left device (Ok e) = zeroed device e.zeros
