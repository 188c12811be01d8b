-- `fold`: a record that comes leaves what is to come as it was.
use Rattle.std.proofs.Common.{Ok, Err, length, sym, ap, subst, ◌∙◌}
use Rattle.std.proofs.lemmas.Result.{err_from_is_err_and}
use Rattle.std.specs.Result.{result_and}
use Rattle.recovery.specs.Folds.{Came, reached_by}
use Rattle.recovery.specs.State.{rest_of}
use Rattle.recovery.proofs.Folds.{ready, folding_more, folding_fewer, refused_here, folded_fault, folded}
use Rattle.recovery.proofs.last_walk.fold.Goals as goal

pub returns-in_err-record-clause-reply : goal.returns-in_err-record-clause-reply
returns-in_err-record-clause-reply g c =
    let r = err_from_is_err_and c.from_residual.result c.from_residual.ensures.1 in
    subst (λ q. Came c.args.low c.args.pages.now c.loop-record.pages (rest_of g.B.BlobSource.notes g.D.ReadAt.bytes c.args.iter.now) (result_and q (Ok (reached_by c.next.new.self)))) (sym r.1) (folded_fault g.B.BlobSource.notes g.D.ReadAt.bytes c.loop-record.buffer c.next.new.buffer (length c.loop-record.body) c.args.low c.args.iter.now c.loop-record.iter c.next.new.self c.args.pages.now c.loop-record.pages c.loop-record.invariant c.next.result c.next.ensures r.0 (cc (c.in_err-record.was, r.2)))

pub take-requires : goal.take-requires
take-requires g c = ready g.B.BlobSource.notes g.D.ReadAt.bytes c.loop-record.buffer c.next.new.buffer (length c.loop-record.body) c.args.low c.args.iter.now c.loop-record.iter c.next.new.self c.args.pages.now c.loop-record.pages c.loop-record.invariant c.next.result c.next.ensures c.in-Some.record (cc (c.in_ok-record.was, c.in-Some.is))

pub loop-record-smaller : goal.loop-record-smaller
loop-record-smaller g c = folding_fewer g.B.BlobSource.notes g.D.ReadAt.bytes c.loop-record.buffer c.next.new.buffer (length c.loop-record.body) c.args.low c.args.iter.now c.loop-record.iter c.next.new.self c.args.pages.now c.loop-record.pages c.loop-record.invariant c.next.result c.next.ensures c.in-Some.record (cc (c.in_ok-record.was, c.in-Some.is))

pub loop-record-preserved : goal.loop-record-preserved
loop-record-preserved g c =
    folding_more g.B.BlobSource.notes g.D.ReadAt.bytes c.loop-record.buffer c.next.new.buffer (length c.loop-record.body) c.args.low c.args.iter.now c.loop-record.iter c.next.new.self c.args.pages.now c.loop-record.pages c.loop-record.invariant c.next.result c.next.ensures c.in-Some.record (cc (c.in_ok-record.was, c.in-Some.is)) (length c.next.new.body) c.take.new.pages c.next.auto.body c.in_ok-take.ensures.took c.take.ensures.tables

pub returns-in_err-take-clause-reply : goal.returns-in_err-take-clause-reply
returns-in_err-take-clause-reply g c =
    let r = err_from_is_err_and c.from_residual-in_err-take.result c.from_residual-in_err-take.ensures.1 in
    subst (λ q. Came c.args.low c.args.pages.now c.take.new.pages (rest_of g.B.BlobSource.notes g.D.ReadAt.bytes c.args.iter.now) (result_and q (Ok (reached_by c.next.new.self)))) (sym r.1) (refused_here g.B.BlobSource.notes g.D.ReadAt.bytes c.loop-record.buffer c.next.new.buffer (length c.loop-record.body) c.args.low c.args.iter.now c.loop-record.iter c.next.new.self c.args.pages.now c.loop-record.pages c.loop-record.invariant c.next.result c.next.ensures c.in-Some.record (cc (c.in_ok-record.was, c.in-Some.is)) r.0 c.take.new.pages (λ rs. c.in_err-take.ensures.took rs ∙ ap Err (sym r.2)))

pub returns-clause-reply : goal.returns-clause-reply
returns-clause-reply g c = folded g.B.BlobSource.notes g.D.ReadAt.bytes c.loop-record.buffer c.next.new.buffer (length c.loop-record.body) c.args.low c.args.iter.now c.loop-record.iter c.next.new.self c.args.pages.now c.loop-record.pages c.loop-record.invariant c.next.result c.next.ensures (cc (c.in_ok-record.was, c.in_default.is))
