-- `entry`: the tables' rule at one place.
use Rattle.std.proofs.Common.{rules}
use Rattle.checksum.proofs.Table.{turned-at}
use Rattle.checksum.proofs.slicing.Slicer.entry.Goals as goal

pub returns : goal.returns
returns c = search (rules, turned-at)
