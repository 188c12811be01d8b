use Rattle.std.proofs.Common.{length}
use Rattle.recovery.specs.State.{rest_of}
use Rattle.recovery.proofs.Drains.{Draining}
use Rattle.recovery.proofs.first_walk.drain.Given as goal

abbrev pub invariant-loop : goal.invariant-loop
invariant-loop g l = Draining g.B.BlobSource.notes g.D.ReadAt.bytes l.buffer (length l.body) l.initial.iter l.iter

abbrev pub decreases-loop : goal.decreases-loop
decreases-loop g l = length (rest_of g.B.BlobSource.notes g.D.ReadAt.bytes l.iter).records
