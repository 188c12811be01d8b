use Rattle.std.proofs.Common.{rules, Err, ap, ◌∙◌}
use Rattle.std.proofs.lemmas.Result.{err_from_is_err_and}
use Rattle.tables.specs.Views.{contents}
use Rattle.scan.specs.Headers.{head_at}
use Rattle.scan.specs.Offers.{offered}
use Rattle.scan.proofs.Visits.{head_part, seen_none, seen_ok, seen_err}
use Rattle.scan.proofs.segments.visit.Goals as goal

pub returns-in_default : goal.returns-in_default
returns-in_default g c =
    let dev = g.D.ReadAt.bytes c.args.device.now in
    let e = c.header_at.ensures ∙ head_part (g.D.ReadAt.first c.args.device.now) c.args.place dev (g.met.D.Device.base c.args.device.now) in
    let o = seen_none c.args.size c.args.low c.args.place (head_at dev c.args.place) (contents c.args.order.now) (c.in_default.ensures ∙ ap (offered c.args.low) e) in
    record { reply = o.reply; contents = o.contents; same = search rules }

pub returns-in_err-add_to : goal.returns-in_err-add_to
returns-in_err-add_to g c =
    let dev = g.D.ReadAt.bytes c.args.device.now in
    let e = c.header_at.ensures ∙ head_part (g.D.ReadAt.first c.args.device.now) c.args.place dev (g.met.D.Device.base c.args.device.now) in
    let p = err_from_is_err_and c.from_residual.result c.from_residual.ensures.1 in
    let o = seen_err c.args.size c.args.low c.args.place (head_at dev c.args.place) (contents c.args.order.now) c.in-Some.header (c.in-Some.ensures ∙ ap (offered c.args.low) e) c.in_err-add_to.field-0.0 (contents c.add_to.new.order) c.in_err-add_to.ensures.reply c.in_err-add_to.ensures.contents in
    record { reply = p.1 ∙ ap Err p.2 ∙ o.reply; contents = o.contents; same = c.in_err-add_to.ensures.same }

pub returns : goal.returns
returns g c =
    let dev = g.D.ReadAt.bytes c.args.device.now in
    let e = c.header_at.ensures ∙ head_part (g.D.ReadAt.first c.args.device.now) c.args.place dev (g.met.D.Device.base c.args.device.now) in
    let o = seen_ok c.args.size c.args.low c.args.place (head_at dev c.args.place) (contents c.args.order.now) c.in-Some.header (c.in-Some.ensures ∙ ap (offered c.args.low) e) (contents c.add_to.new.order) c.in_ok-add_to.ensures.reply c.in_ok-add_to.ensures.contents in
    record { reply = o.reply; contents = o.contents; same = c.in_ok-add_to.ensures.same }
