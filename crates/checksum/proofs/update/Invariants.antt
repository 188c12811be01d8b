-- `update`: the octets that are left give what all give.
use Rattle.std.proofs.Common.{◌≡◌, ◌-◌, ◌*◌, drop}
use Rattle.checksum.specs.Register.{absorb}
use Rattle.checksum.proofs.update.Given as goal

abbrev pub invariant-loop-word : goal.invariant-loop-word
invariant-loop-word l = absorb (0xFFFF_FFFF - l.crc) l.bytes ≡ absorb l.register (drop (l.word-index * 8) l.bytes)

abbrev pub invariant-loop-b : goal.invariant-loop-b
invariant-loop-b l = absorb (0xFFFF_FFFF - l.crc) l.bytes ≡ absorb l.register (drop l.b-index l.rest)
