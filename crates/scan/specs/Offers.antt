-- What a header offers to a scan. Assumes nothing.
--   offered low h  LSN and mark of a header that is used: what its reader gives
--   mark_of low h  what a header's mark counts, where it is used
use Rattle.std.specs.Prelude.{ℕ, if◌then◌else◌, List, Some, None, Option}
use Rattle.scan.specs.declared.header.UsedHeader.{UsedHeader}
use Rattle.scan.specs.Headers.{head_lsn, head_mark, used, weight}

abbrev pub offered : ℕ → List ℕ → Option UsedHeader
offered low h = if used low h then Some (record { lsn = head_lsn h; mark = weight (head_mark h) }) else None

unfoldable pub mark_of : ℕ → List ℕ → ℕ
mark_of low h = if used low h then weight (head_mark h) else 0
