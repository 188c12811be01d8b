-- `walk_tail`: the iterator has the first walk before it.
use Rattle.std.proofs.Common.{subst, sym, ◌∙◌}
use Rattle.std.specs.List.{All}
use Rattle.std.proofs.lemmas.Result.{err_from_is_err_and}
use Rattle.tables.specs.Views.{contents}
use Rattle.walks.specs.Walks.{since, tail}
use Rattle.recovery.specs.Small.{Small}
use Rattle.recovery.proofs.Firsts.{since-small, tail-small, walked_fault, walked_tail}
use Rattle.recovery.proofs.first_walk.walk_tail.Goals as goal

pub drain-requires : goal.drain-requires
unfolding tail
drain-requires g c =
    let size = c.args.size in
    record {
      long = c.requires.long;
      room = c.requires.room;
      segments = subst (All (Small size)) (sym c.find_tail-tail.ensures.segments)
          (tail-small size c.args.start (since c.args.start (contents c.args.order.now)) (since-small size c.args.start (contents c.args.order.now) c.requires.segments));
      held = tt;
    }

pub returns-in_err-drain : goal.returns-in_err-drain
returns-in_err-drain g c =
    let r = err_from_is_err_and c.from_residual.result c.from_residual.ensures.1 in
    r.1 ∙ walked_fault (g.B.BlobSource.notes c.args.source.now) c.args.size (g.D.ReadAt.bytes c.args.device.now) c.find_tail-tail.result
    (tail c.args.size c.args.start (contents c.args.order.now)) c.find_tail-tail.ensures r.0 (cc (c.in_err-drain.ensures.reply, r.2))

pub returns : goal.returns
returns g c =
    walked_tail (g.B.BlobSource.notes c.args.source.now) c.args.size (g.D.ReadAt.bytes c.args.device.now) c.find_tail-tail.result
    (tail c.args.size c.args.start (contents c.args.order.now)) c.find_tail-tail.ensures c.drain.new.iter.current c.in_ok-drain.ensures.reply c.in_ok-drain.ensures.current
