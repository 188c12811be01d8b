use Rattle.std.proofs.Common.{rules, Ok, Err, ap, ◌*◌, ◌∙◌, subst, arith}
use Rattle.std.proofs.lemmas.Result.{err_from_is_err_and}
use Rattle.layout.specs.Sizes.{counted}
use Rattle.refusals.specs.declared.refusal.Refusal.TheVariants.{Size, Buffer}
use Rattle.tables.specs.Views.{contents, capacity}
use Rattle.scan.proofs.Gathers.{scanning_none, scanning_next}
use Rattle.scan.proofs.Scans.{Scanned, size_refused, size_taken, scan-size, scan_room, scan_fault, scan-done}
use Rattle.scan.proofs.segments.scan.Goals as goal

pub returns-in_err-size : goal.returns-in_err-size
returns-in_err-size g c =
    let p = err_from_is_err_and c.from_residual.result c.from_residual.ensures.1 in
    let z = size_refused c.args.size Size c.in_err-size.field-0.0 c.new.result c.new.ensures c.in_err-size.ensures.value in
    let o = scan-size (capacity c.args.order.now) c.args.size (g.D.ReadAt.bytes c.args.device.now) c.args.low (contents c.clear.new.self) z.0 c.clear.ensures.contents in
    record { reply = p.1 ∙ ap Err (p.2 ∙ z.1) ∙ o.reply; contents = o.contents; same = c.clear.ensures.same }

pub returns-then-count-capacity : goal.returns-then-count-capacity
returns-then-count-capacity g c =
    let dev = g.D.ReadAt.bytes c.args.device.now in
    let room = capacity c.args.order.now in
    let z = size_taken c.args.size c.in_ok-size.size Size c.new.result c.new.ensures c.in_ok-size.ensures.value in
    let count = c.count_in-count.ensures ∙ ap (λ k. counted k c.in_ok-size.size) c.len.ensures.value in
    let o = subst (λ k. Scanned room k dev c.args.low (Err Buffer) (contents c.clear.new.self)) z.0
    (scan_room room c.in_ok-size.size dev c.args.low z.1 c.count_in-count.result count (contents c.clear.new.self) (omega (arith, c.capacity.ensures, c.clear.ensures.same.size, c.if-count-capacity.true)) c.clear.ensures.contents) in
    record { reply = o.reply; contents = o.contents; same = c.clear.ensures.same }

pub loop-i-init : goal.loop-i-init
loop-i-init g c =
    (scanning_none c.in_ok-size.size (g.D.ReadAt.bytes c.args.device.now) c.args.low (contents c.clear.new.self) c.clear.ensures.contents, search rules)

pub returns-in_err-mark : goal.returns-in_err-mark
returns-in_err-mark g c =
    let dev = g.D.ReadAt.bytes c.args.device.now in
    let room = capacity c.args.order.now in
    let z = size_taken c.args.size c.in_ok-size.size Size c.new.result c.new.ensures c.in_ok-size.ensures.value in
    let count = c.count_in-count.ensures ∙ ap (λ k. counted k c.in_ok-size.size) c.len.ensures.value in
    let p = err_from_is_err_and c.from_residual-in_err-mark.result c.from_residual-in_err-mark.ensures.1 in
    let o = subst (λ k. Scanned room k dev c.args.low (Err c.in_err-mark.field-0.0) (contents c.visit.new.order)) z.0
    (scan_fault room c.in_ok-size.size dev c.args.low z.1 c.count_in-count.result count c.loop-i.i c.loop-i.top (contents c.loop-i.order)
    (omega (arith, c.capacity.ensures, c.clear.ensures.same.size, c.if-count-capacity.false)) c.loop-i.invariant.0 c.loop-i-test.true (c.loop-i.i * c.bytes.result) (ap (λ k. c.loop-i.i * k) c.bytes.ensures.value)
    c.in_err-mark.field-0.0 (contents c.visit.new.order) c.in_err-mark.ensures.reply c.in_err-mark.ensures.contents) in
    record { reply = p.1 ∙ ap Err p.2 ∙ o.reply; contents = o.contents; same = search rules }

pub loop-i-preserved : goal.loop-i-preserved
loop-i-preserved g c = (
  scanning_next c.in_ok-size.size (g.D.ReadAt.bytes c.args.device.now) c.args.low c.loop-i.i c.loop-i.top (contents c.loop-i.order) c.loop-i.invariant.0 (c.loop-i.i * c.bytes.result) (ap (λ k. c.loop-i.i * k) c.bytes.ensures.value)
      c.in_ok-mark.mark c.max-top.result (contents c.visit.new.order) c.max-top.ensures c.in_ok-mark.ensures.reply c.in_ok-mark.ensures.contents,
  search rules,
)

pub returns : goal.returns
returns g c =
    let dev = g.D.ReadAt.bytes c.args.device.now in
    let room = capacity c.args.order.now in
    let z = size_taken c.args.size c.in_ok-size.size Size c.new.result c.new.ensures c.in_ok-size.ensures.value in
    let count = c.count_in-count.ensures ∙ ap (λ k. counted k c.in_ok-size.size) c.len.ensures.value in
    let o = subst (λ k. Scanned room k dev c.args.low (Ok c.loop-i.top) (contents c.loop-i.order)) z.0
    (scan-done room c.in_ok-size.size dev c.args.low z.1 c.count_in-count.result count c.loop-i.i c.loop-i.top (contents c.loop-i.order)
    (omega (arith, c.capacity.ensures, c.clear.ensures.same.size, c.if-count-capacity.false)) c.loop-i.invariant.0 (omega arith)) in
    record { reply = o.reply; contents = o.contents; same = search rules }
