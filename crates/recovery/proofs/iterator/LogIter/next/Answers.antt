use Rattle.std.proofs.Common.{length, Ok, ap, ◌∙◌}
use Rattle.recovery.proofs.States.{to_more}
use Rattle.recovery.proofs.iterator.LogIter.next.Goals as goal

pub loop-record-preserved : goal.loop-record-preserved
loop-record-preserved g c =
    to_more g.B.BlobSource.notes g.D.ReadAt.bytes c.loop-record.buffer c.step.new.buffer (length c.loop-record.body) (length c.step.new.body) c.args.self.now c.loop-record.self c.step.new.self c.step.result
    c.loop-record.invariant c.step.ensures (c.in_ok-record.was ∙ ap Ok c.in_default.is) c.step.auto.body
