-- `checksum`: the checksum of nothing, carried on.
use Rattle.checksum.proofs.Values.{crc32_none}
use Rattle.std.proofs.Common.{[], sym}
use Rattle.checksum.proofs.checksum.Goals as goal

pub returns : goal.returns
returns c = c.update.ensures.joined [] (sym crc32_none)
