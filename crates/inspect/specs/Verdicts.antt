-- What is to be said of a segment by its first bytes (docs/RECOVERY.md, "Scan"). Assumes nothing.
use Rattle.std.specs.Prelude.{ℕ, if◌then◌else◌, List, Some, None, Option}
use Rattle.codec.specs.Fields.{below}
use Rattle.codec.specs.Segments.{segment_header, checks}
use Rattle.codec.specs.declared.segment.SegmentHeader.{SegmentHeader}
use Rattle.inspect.specs.declared.verdict.Verdict.{Verdict}
use Rattle.inspect.specs.declared.verdict.Verdict.TheVariants.{Used, BelowZero, NoHeader}

-- used: its header checks, and its LSN is not below zero
abbrev pub judged : SegmentHeader → Verdict
judged h = if checks (segment_header h) then (if below h.lsn.bits then BelowZero h else Used h) else NoHeader

abbrev pub judged_bytes : Option (SegmentHeader × List ℕ) → Verdict
judged_bytes None = NoHeader
judged_bytes (Some p) = judged p.0
