-- The end of a recovery: the new snapshot and the zeros to write (docs/RECOVERY.md, "Finish"). Assumes nothing.
--   Ended                the snapshot given out, and the zeros, each by place and number
--   wholes size ss       whole segments
--   behind size c ps     the snapshot of a log that ends with a segment
--   ended ..             the end at a current LSN
--   finish ..            the end of the last walk
use Rattle.std.specs.Prelude.{ℕ, ◌+◌, ◌-◌, ◌*◌, ◌/◌, ◌%◌, true, false, ◌||◌, List, [], ◌∷◌, Some, None, Option, nat_le, nat_lt}
use Rattle.pages.specs.Pages.{Page}
use Rattle.pages.specs.Snapshots.{Snap}
use Rattle.scan.specs.Order.{Segment}
use Rattle.walks.specs.Walk.{Walked}

pub record Ended : Type 0 where
  pub snap : Snap
  pub zeros : List (ℕ × ℕ)

unfoldable pub wholes : ℕ → List Segment → List (ℕ × ℕ)
wholes size [] = []
wholes size (s ∷ ss) = (s.value, size) ∷ wholes size ss

-- stable is the next segment's LSN, and none is active
unfoldable pub behind : ℕ → ℕ → List Page → Snap
behind size c ps = record { stable = Some (c / size * size + size); active = None; pages = ps }

-- a held segment with room behind the progress stays active, and is zeroed from there on
unfoldable pub ended : ℕ → ℕ → List Page → Option Segment → List (ℕ × ℕ) → Ended
ended size c ps (Some s) zs =
    elim (nat_le size (c % size + 32)) [
      | true ↦ record { snap = behind size c ps; zeros = zs }
      | false ↦
          record { snap = record { stable = Some c; active = Some s.value; pages = ps }; zeros = (s.value + c % size, size - c % size) ∷ zs }
    ]
ended size c ps None zs =
    elim (nat_le size (c % size + 32) || nat_lt 0 (c % size)) [
      | true ↦ record { snap = behind size c ps; zeros = zs }
      | false ↦
          record { snap = record { stable = Some c; active = None; pages = ps }; zeros = zs }
    ]

-- with no current LSN the snapshot given is given back; segments left are zeroed in every case
unfoldable pub finish : ℕ → Snap → List Page → Walked → Ended
finish size given ps w =
    elim w.current [
      | None ↦ record { snap = given; zeros = wholes size w.left }
      | Some c ↦ ended size c ps w.held (wholes size w.left)
    ]
