use Rattle.std.proofs.Common.{length}
use Rattle.recovery.specs.State.{Going, weight}
use Rattle.recovery.proofs.iterator.LogIter.next.Given as goal

abbrev pub invariant-loop-record : goal.invariant-loop-record
invariant-loop-record g l = Going g.B.BlobSource.notes g.D.ReadAt.bytes l.buffer (length l.body) l.initial.self l.self

abbrev pub decreases-loop-record : goal.decreases-loop-record
decreases-loop-record g l = weight l.self
