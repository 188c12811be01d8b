-- A segment of the order: rounding to its place, and no sum that passes 64 bits. Assumes nothing.
use Rattle.std.specs.Prelude.{◌≡◌, ℕ, ◌+◌, ◌%◌, ◌^◌, ◌<◌, ◌≤◌}
use Rattle.scan.specs.Order.{Segment}

pub record Small (size : ℕ) (s : Segment) : Type 0 where
  pub lsn : s.key + size ≤ 2 ^ 62
  pub place : s.value + size < 2 ^ 64
  pub aligned : s.value % size ≡ 0
