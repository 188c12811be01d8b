-- What is replied of a snapshot, for any size (docs/RECOVERY.md, "Coordinates"). Assumes nothing.
--   fits o               absent, or a number of 64 bits
--   checked c            coordinates, refused where one does not fit
--   coords_reply size s  those of a snapshot, refused for a size that no segment has
use Rattle.std.specs.Prelude.{ℕ, ◌^◌, Bool, true, if◌then◌else◌, ◌&&◌, Some, None, Ok, Err, Option, Result, nat_lt}
use Rattle.layout.specs.Sizes.{is_segment_size}
use Rattle.refusals.specs.declared.refusal.Refusal.{Refusal}
use Rattle.refusals.specs.declared.refusal.Refusal.TheVariants.{Size, Snapshot}
use Rattle.pages.specs.Snapshots.{Snap, coords}

unfoldable pub fits : Option ℕ → Bool
fits None = true
fits (Some n) = nat_lt n (2 ^ 64)

unfoldable pub checked : Option ℕ × Option ℕ → Result (Option ℕ × Option ℕ) Refusal
checked c = if fits c.0 && fits c.1 then Ok c else Err Snapshot

unfoldable pub coords_reply : ℕ → Snap → Result (Option ℕ × Option ℕ) Refusal
coords_reply size s = if is_segment_size size then checked (coords size s) else Err Size
