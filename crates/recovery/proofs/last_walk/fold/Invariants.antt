use Rattle.std.proofs.Common.{length}
use Rattle.recovery.specs.State.{rest_of}
use Rattle.recovery.proofs.Folds.{Folding}
use Rattle.recovery.proofs.last_walk.fold.Given as goal

abbrev pub invariant-loop-record : goal.invariant-loop-record
invariant-loop-record g l = Folding g.B.BlobSource.notes g.D.ReadAt.bytes l.buffer (length l.body) l.low l.initial.iter l.iter l.initial.pages l.pages

abbrev pub decreases-loop-record : goal.decreases-loop-record
decreases-loop-record g l = length (rest_of g.B.BlobSource.notes g.D.ReadAt.bytes l.iter).records
