-- Segments (docs/FORMAT.md, "Segment header"). Assumes nothing.
--   masked n             an 8-byte field of a segment header, as stored and back again
--   complement c         a checksum as stored and back again
--   fields lsn mark      what a segment header holds behind its checksum
--   segment_header h     its 20 bytes
--   checks bs            whether 20 bytes are a header
use Rattle.std.specs.Prelude.{ℕ, ◌-◌, ◌^◌, ◌<◌, Bool, List, ◌++◌, take, drop, Some, Option, ◌==◌, bit_xor}
use Rattle.checksum.specs.Crc.{crc32}
use Rattle.codec.specs.Numbers.{octets, field, little}
use Rattle.codec.specs.Serial.{next}
use Rattle.codec.specs.declared.segment.SegmentHeader.{SegmentHeader}

abbrev pub masked : ℕ → ℕ
masked n = bit_xor n 0x7FFF_FFFF_FFFF_FFFF

abbrev pub complement : ℕ → ℕ
complement c = 0xFFFF_FFFF - c

abbrev pub fields : ℕ → ℕ → List ℕ
fields lsn mark = octets 8 (masked lsn) ++ octets 8 (masked mark)

abbrev pub segment_header : SegmentHeader → List ℕ
segment_header h = octets 4 h.crc32 ++ fields h.lsn.bits h.max_stable_lsn.bits

-- the numbers that its fields can hold
abbrev pub SegmentFits : SegmentHeader → Type 0
SegmentFits h = (h.crc32 < 2 ^ 32) × (h.lsn.bits < 2 ^ 64) × (h.max_stable_lsn.bits < 2 ^ 64)

abbrev pub read_segment_header : List ℕ → Option (SegmentHeader × List ℕ)
read_segment_header bs =
    next (field 4 bs) λ crc bs.
    next (field 8 bs) λ lsn bs.
    next (field 8 bs) λ mark rest.
    Some (record { crc32 = crc; lsn = record { bits = masked lsn }; max_stable_lsn = record { bits = masked mark } }, rest)

-- the complemented stored checksum is that of bytes 4 to 19
unfoldable pub checks : List ℕ → Bool
checks bs = complement (little (take 4 bs)) == crc32 (take 16 (drop 4 bs))

-- the header that is written for an LSN and a stable mark
abbrev pub segment_of : ℕ → ℕ → SegmentHeader
segment_of lsn mark = record {
  crc32 = complement (crc32 (fields lsn mark));
  lsn = record { bits = lsn };
  max_stable_lsn = record { bits = mark };
}
