-- `divisor`: the theorems on division by the generator.
use Rattle.std.proofs.Common.{refl}
use Rattle.checksum.proofs.Quotients.{leaves-remainder}
use Rattle.checksum.proofs.Unique.{leaves_no_other}
use Rattle.checksum.proofs.divisor.Goals as goal

pub returns : goal.returns
returns c = record { value = refl; leaves = leaves-remainder; only = leaves_no_other }
