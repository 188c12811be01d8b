-- `update`: eight octets, one octet, and the complement at the end.
use Rattle.std.proofs.Common.{rules}
use Rattle.checksum.proofs.Octets.{absorb_more, absorb_all, joined}
use Rattle.checksum.proofs.Sliced.{absorb-eight}
use Rattle.checksum.proofs.update.Goals as goal

pub loop-word-preserved : goal.loop-word-preserved
loop-word-preserved c = search (rules, absorb-eight)

pub loop-b-preserved : goal.loop-b-preserved
loop-b-preserved c = search (rules, absorb_more)

pub returns : goal.returns
returns c = search (rules, absorb_all, joined)
