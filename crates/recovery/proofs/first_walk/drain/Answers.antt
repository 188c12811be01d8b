-- `drain`: a record that is dropped leaves the walk's end where it was.
use Rattle.std.proofs.Common.{length, ◌∙◌}
use Rattle.std.proofs.lemmas.Result.{err_from_is_err_and}
use Rattle.recovery.proofs.Drains.{draining_more, fewer, drained, drained_fault}
use Rattle.recovery.proofs.first_walk.drain.Goals as goal

pub loop-smaller : goal.loop-smaller
loop-smaller g c = fewer g.B.BlobSource.notes g.D.ReadAt.bytes c.loop.buffer c.next.new.buffer (length c.loop.body) c.args.iter.now c.loop.iter c.next.new.self c.loop.invariant c.in_ok-next.field-0 c.next.result c.next.ensures c.in_ok-next.was (cc)

pub loop-preserved : goal.loop-preserved
loop-preserved g c =
    draining_more g.B.BlobSource.notes g.D.ReadAt.bytes c.loop.buffer c.next.new.buffer (length c.loop.body) c.args.iter.now c.loop.iter c.next.new.self c.loop.invariant c.in_ok-next.field-0 c.next.result c.next.ensures c.in_ok-next.was (length c.next.new.body) c.next.auto.body (cc)

pub returns : goal.returns
returns g c =
    let e = drained g.B.BlobSource.notes g.D.ReadAt.bytes c.loop.buffer c.next.new.buffer (length c.loop.body) c.args.iter.now c.loop.iter c.next.new.self c.loop.invariant c.in_ok-next.field-0 c.next.result c.next.ensures c.in_ok-next.was (cc) in
    record { reply = e.0; current = e.1 }

pub returns-in_err-next-clause-reply : goal.returns-in_err-next-clause-reply
returns-in_err-next-clause-reply g c =
    let r = err_from_is_err_and c.from_residual.result c.from_residual.ensures.1 in
    r.1 ∙ drained_fault g.B.BlobSource.notes g.D.ReadAt.bytes c.loop.buffer c.next.new.buffer (length c.loop.body) c.args.iter.now c.loop.iter c.next.new.self c.loop.invariant c.next.result r.0 c.next.ensures (cc (c.in_err-next.was, r.2))
