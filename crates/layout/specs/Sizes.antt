-- Sizes and counts of segments (docs/FORMAT.md, "Counted segments" and "Limits"). Assumes nothing.
--   is_segment_size n      the sizes that a segment may have
--   counted n size         how many segments a log of n bytes has
use Rattle.std.specs.Prelude.{ℕ, ◌+◌, ◌/◌, ◌%◌, Bool, if◌then◌else◌, ◌&&◌, ◌==◌, count_ones, nat_le}

-- a power of two, which is a number with a single bit set, from 256 to 1,048,576
abbrev pub is_segment_size : ℕ → Bool
is_segment_size n = nat_le 256 n && (nat_le n 1048576 && count_ones n == 1)

-- a last part counts where it holds a header
abbrev pub counted : ℕ → ℕ → ℕ
counted n size = n / size + (if nat_le 20 (n % size) then 1 else 0)
