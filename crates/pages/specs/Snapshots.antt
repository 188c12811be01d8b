-- Snapshots (docs/RECOVERY.md, "Well-formed snapshots" and "Coordinates"). Assumes nothing.
--   Snap                stable LSN, active segment and pages
--   nothing             the snapshot of a log never recovered
--   snap_of s           what a snapshot in memory means
--   round_up size n     n, or the next multiple of the size
--   coords size s       where the log ends: place and LSN
--   well_formed size s  the rules that every snapshot given out keeps
--   formed size s       the same of a snapshot in memory, whose fragments are those of its pages
use Rattle.std.specs.Prelude.{ℕ, ◌+◌, ◌-◌, ◌*◌, ◌/◌, ◌%◌, ◌^◌, Bool, true, false, ◌&&◌, List, [], ◌∷◌, Some, None, Option, ◌==◌, nat_le, nat_lt}
use Rattle.pages.specs.declared.snapshot.Snapshot.{Snapshot}
use Rattle.pages.specs.Pages.{Item, Page, uninitialized, free, present}
use Rattle.pages.specs.Shown.{nested, tidy}

pub record Snap : Type 0 where
  pub stable : Option ℕ
  pub active : Option ℕ
  pub pages : List Page

unfoldable pub nothing : Snap
nothing = record { stable = None; active = None; pages = [] }

unfoldable pub snap_of : Snapshot → Snap
snap_of s = record { stable = s.stable_lsn; active = s.active_segment; pages = nested s.pages.now s.fragments.now }

unfoldable pub round_up : ℕ → ℕ → ℕ
round_up size n = (n + (size - 1)) / size * size

unfoldable pub coords_at : ℕ → ℕ → Option ℕ → Option ℕ × Option ℕ
coords_at size n (Some place) = (Some (place + n % size), Some n)
coords_at size n None = (None, Some (round_up size n))

unfoldable pub coords : ℕ → Snap → Option ℕ × Option ℕ
coords size s = elim s.stable [ None ↦ (None, None) | Some n ↦ coords_at size n s.active ]

-- items with rising LSNs, from `low` on and below `top`
unfoldable pub rises_from : ℕ → ℕ → List Item → Bool
rises_from low top [] = true
rises_from low top (x ∷ xs) = nat_le low x.0 && (nat_lt x.0 top && rises_from (x.0 + 1) top xs)

unfoldable pub sound_page : ℕ → Page → Bool
sound_page top uninitialized = true
sound_page top (free lsn ptr) = nat_lt lsn top
sound_page top (present base items) = rises_from 0 top (base ∷ items)

unfoldable pub sound_pages : ℕ → List Page → Bool
sound_pages top [] = true
sound_pages top (p ∷ ps) = sound_page top p && sound_pages top ps

unfoldable pub no_pages : List Page → Bool
no_pages [] = true
no_pages (p ∷ ps) = false

-- an active segment goes with a progress that has room behind it, and none with the beginning of a segment
unfoldable pub placed : ℕ → ℕ → Option ℕ → Bool
placed size n (Some place) = place % size == 0 && (nat_le 20 (n % size) && nat_le (n % size + 33) size)
placed size n None = n % size == 0

unfoldable pub bare : Option ℕ → List Page → Bool
bare None ps = no_pages ps
bare (Some place) ps = false

unfoldable pub well_formed : ℕ → Snap → Bool
well_formed size s =
    elim s.stable [
      | None ↦ bare s.active s.pages
      | Some n ↦ nat_le n (2 ^ 62) && (sound_pages n s.pages && placed size n s.active)
    ]

unfoldable pub formed : ℕ → Snapshot → Bool
formed size s = tidy 0 s.pages.now s.fragments.now && well_formed size (snap_of s)
