-- How a cover is made (docs/RECOVERY.md, "Cover"). Assumes nothing.
--   cover_refusal        why none is made over a medium of n bytes that begins at the place `first`
--   cover_blocks         how many blocks a cover buffer of n bytes has room for
use Rattle.std.specs.Prelude.{ℕ, ◌/◌, min, if◌then◌else◌, ◌&&◌, Some, None, Option, ◌==◌, nat_le}
use Rattle.layout.specs.Sizes.{is_segment_size}
use Rattle.device.specs.declared.error.DeviceError.{DeviceError}
use Rattle.device.specs.declared.error.DeviceError.TheVariants.{BlockSize, Outside}

abbrev pub cover_refusal : ℕ → ℕ → ℕ → ℕ → Option DeviceError
cover_refusal size capacity first n =
    if is_segment_size size then (if first == 0 && nat_le n capacity then None else Some Outside) else Some BlockSize

abbrev pub cover_blocks : ℕ → ℕ → ℕ
cover_blocks size n = min (n / size) 64
