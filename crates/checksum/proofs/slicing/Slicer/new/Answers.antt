-- `new`: every entry is computed and compared.
use Rattle.std.proofs.Common.{refl}
use Rattle.checksum.specs.Register.{turn, turns}
use Rattle.checksum.specs.Tables.{turned}
use Rattle.checksum.proofs.slicing.Slicer.new.Goals as goal

pub invariant_of-result : goal.invariant_of-result
unfolding turn turns turned
invariant_of-result c = record { are_turned = refl }
