-- Segment headers on a device (docs/RECOVERY.md, "Scan" and "Tail"). Assumes nothing.
--   head_at dev place        the 20 bytes at a place
--   head_lsn h, head_mark h  LSN and stable mark, as in the bytes: from 2^63 on they are below zero
--   used low h               the header checks, and its LSN is neither below zero nor below `low`
--   weight mark              what a mark counts
--   odd size lsn mark        a used header that is a fault
use Rattle.std.specs.Prelude.{ℕ, ◌%◌, ◌^◌, Bool, if◌then◌else◌, not, ◌&&◌, ◌||◌, List, take, drop, ◌==◌, nat_le}
use Rattle.codec.specs.Fields.{below}
use Rattle.codec.specs.Numbers.{little}
use Rattle.codec.specs.Segments.{masked, checks}

unfoldable pub head_at : List ℕ → ℕ → List ℕ
head_at dev place = take 20 (drop place dev)

unfoldable pub head_lsn : List ℕ → ℕ
head_lsn h = masked (little (take 8 (drop 4 h)))

unfoldable pub head_mark : List ℕ → ℕ
head_mark h = masked (little (take 8 (drop 12 h)))

unfoldable pub used : ℕ → List ℕ → Bool
used low h = checks h && (not (below (head_lsn h)) && nat_le low (head_lsn h))

-- a mark below zero counts for nothing
unfoldable pub weight : ℕ → ℕ
weight mark = if below mark then 0 else mark

-- a used header's LSN is no multiple of the size, or LSN or mark is too large
unfoldable pub odd : ℕ → ℕ → ℕ → Bool
odd size lsn mark = not (lsn % size == 0) || (nat_le (2 ^ 62) lsn || nat_le (2 ^ 62) mark)
