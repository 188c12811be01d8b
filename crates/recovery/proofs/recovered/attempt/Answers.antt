-- `attempt`: what each part makes of the whole.
use Rattle.std.proofs.Common.{Err, sym, ap, subst, refl, ◌∙◌, arith}
use Rattle.std.proofs.lemmas.Result.{err_from_is_err_and}
use Rattle.pages.specs.Shown.{tidy}
use Rattle.tables.specs.Views.{contents}
use Rattle.recovery.specs.Checks.{budget_of}
use Rattle.recovery.specs.Finishing.{meaning_of}
use Rattle.recovery.specs.Flat.{flat}
use Rattle.recovery.specs.Recovers.{recover_of, Attempted}
use Rattle.recovery.specs.declared.checks.Budget.{Budget as Lent}
use Rattle.recovery.proofs.Checked.{first_fit}
use Rattle.recovery.proofs.Attempts.{fault_none, low_is, least_is, refused, at_checks, as_asked, passed_by, given_sound, at_scan, all_small, start-small, foldable, at_walks, clean, at_end, attempted}
use Rattle.recovery.proofs.recovered.attempt.Goals as goal

pub returns-in_err-size-clause-told : goal.returns-in_err-size-clause-told
returns-in_err-size-clause-told g c =
    let dev = meaning_of g.D.ReadAt.bytes g.D.Device.capacity g.D.Device.block_size g.D.Device.loose g.D.Device.spare c.args.device.now in
    let notes = g.B.BlobSource.notes c.args.source.now in
    let given = c.args.given.now in
    let b = c.budget-budget.result in
    let r = err_from_is_err_and c.from_residual.result c.from_residual.ensures.1 in
    as_asked notes dev c.args.size given b c.args.size _ refl c.budget-budget.ensures dev c.args.pages.now c.from_residual.result
    (refused notes dev c.args.size given b r.0 c.args.pages.now c.from_residual.result (at_checks notes dev c.args.size given b r.0 (ap Err r.2 ∙ c.in_err-size.ensures)) r.1)

pub load-requires-clause-states : goal.load-requires-clause-states
load-requires-clause-states g c =
    let dev = meaning_of g.D.ReadAt.bytes g.D.Device.capacity g.D.Device.block_size g.D.Device.loose g.D.Device.spare c.args.device.now in
    let notes = g.B.BlobSource.notes c.args.source.now in
    let given = c.args.given.now in
    let b = c.budget-budget.result in
    let s = c.in_ok-size.size in
    let p = passed_by notes dev s given b c.args.size c.in_ok-size.ensures in
    let fit = first_fit notes dev s given b p.0 in
    let e = ap (λ (q : Lent). q.pages) c.budget-budget.ensures in omega (arith, fit.pages)

pub load-requires-clause-fragments : goal.load-requires-clause-fragments
load-requires-clause-fragments g c =
    let dev = meaning_of g.D.ReadAt.bytes g.D.Device.capacity g.D.Device.block_size g.D.Device.loose g.D.Device.spare c.args.device.now in
    let notes = g.B.BlobSource.notes c.args.source.now in
    let given = c.args.given.now in
    let b = c.budget-budget.result in
    let s = c.in_ok-size.size in
    let p = passed_by notes dev s given b c.args.size c.in_ok-size.ensures in
    let fit = first_fit notes dev s given b p.0 in
    let e = ap (λ (q : Lent). q.fragments) c.budget-budget.ensures in omega (arith, fit.fragments)

pub order_segments-requires : goal.order_segments-requires
order_segments-requires g c =
    let dev = meaning_of g.D.ReadAt.bytes g.D.Device.capacity g.D.Device.block_size g.D.Device.loose g.D.Device.spare c.args.device.now in
    let notes = g.B.BlobSource.notes c.args.source.now in
    let given = c.args.given.now in
    let b = c.budget-budget.result in
    let s = c.in_ok-size.size in
    let p = passed_by notes dev s given b c.args.size c.in_ok-size.ensures in
    let fit = first_fit notes dev s given b p.0 in
    let e = ap (λ (q : Lent). q.order) c.budget-budget.ensures in omega (arith, fit.order, c.new-order.ensures.size)

pub returns-in_err-start-clause-told : goal.returns-in_err-start-clause-told
returns-in_err-start-clause-told g c =
    let dev = meaning_of g.D.ReadAt.bytes g.D.Device.capacity g.D.Device.block_size g.D.Device.loose g.D.Device.spare c.args.device.now in
    let notes = g.B.BlobSource.notes c.args.source.now in
    let given = c.args.given.now in
    let b = c.budget-budget.result in
    let s = c.in_ok-size.size in
    let p = passed_by notes dev s given b c.args.size c.in_ok-size.ensures in
    let low = c.unwrap_or-low.result in
    let least = c.rounded.result in
    let le = least_is s given.stable_lsn low least c.unwrap_or-low.ensures c.rounded.ensures in
    let r = err_from_is_err_and c.from_residual-in_err-start.result c.from_residual-in_err-start.ensures.1 in
    as_asked notes dev s given b c.args.size _ p.1 c.budget-budget.ensures dev c.load.new.self c.from_residual-in_err-start.result
    (refused notes dev s given b r.0 c.load.new.self c.from_residual-in_err-start.result (at_scan notes dev s given b p.0 least le r.0 _ (ap Err r.2 ∙ c.in_err-start.ensures.reply)) r.1)

pub walk_log-requires-clause-segments : goal.walk_log-requires-clause-segments
walk_log-requires-clause-segments g c =
    let dev = meaning_of g.D.ReadAt.bytes g.D.Device.capacity g.D.Device.block_size g.D.Device.loose g.D.Device.spare c.args.device.now in
    let notes = g.B.BlobSource.notes c.args.source.now in
    let given = c.args.given.now in
    let b = c.budget-budget.result in
    let s = c.in_ok-size.size in
    let p = passed_by notes dev s given b c.args.size c.in_ok-size.ensures in
    let low = c.unwrap_or-low.result in
    let least = c.rounded.result in
    let le = least_is s given.stable_lsn low least c.unwrap_or-low.ensures c.rounded.ensures in
    let ss = contents c.order_segments.new.order in
    let start = c.in_ok-start.start in
    let none = fault_none _ start _ c.in_ok-start.ensures.reply in
    all_small notes dev s given b p.0 least le none.0 ss c.order_segments.ensures.contents

pub walk_log-requires-clause-start : goal.walk_log-requires-clause-start
walk_log-requires-clause-start g c =
    let dev = meaning_of g.D.ReadAt.bytes g.D.Device.capacity g.D.Device.block_size g.D.Device.loose g.D.Device.spare c.args.device.now in
    let notes = g.B.BlobSource.notes c.args.source.now in
    let given = c.args.given.now in
    let b = c.budget-budget.result in
    let s = c.in_ok-size.size in
    let p = passed_by notes dev s given b c.args.size c.in_ok-size.ensures in
    let low = c.unwrap_or-low.result in
    let least = c.rounded.result in
    let le = least_is s given.stable_lsn low least c.unwrap_or-low.ensures c.rounded.ensures in
    let ss = contents c.order_segments.new.order in
    let start = c.in_ok-start.start in
    let none = fault_none _ start _ c.in_ok-start.ensures.reply in
    start-small notes dev s given b p.0 least le none.0 ss c.order_segments.ensures.contents start none.1

pub walk_log-requires-clause-foldable : goal.walk_log-requires-clause-foldable
walk_log-requires-clause-foldable g c =
    let dev = meaning_of g.D.ReadAt.bytes g.D.Device.capacity g.D.Device.block_size g.D.Device.loose g.D.Device.spare c.args.device.now in
    let notes = g.B.BlobSource.notes c.args.source.now in
    let given = c.args.given.now in
    let b = c.budget-budget.result in
    let s = c.in_ok-size.size in
    let p = passed_by notes dev s given b c.args.size c.in_ok-size.ensures in
    let low = c.unwrap_or-low.result in
    let lo = low_is given.stable_lsn low c.unwrap_or-low.ensures in
    let least = c.rounded.result in
    let le = least_is s given.stable_lsn low least c.unwrap_or-low.ensures c.rounded.ensures in
    let ss = contents c.order_segments.new.order in
    let start = c.in_ok-start.start in
    let none = fault_none _ start _ c.in_ok-start.ensures.reply in
    let t = c.load.new.self in
    let kept = c.load.ensures.kept low (given_sound notes dev s given b p.0 low lo) in
    foldable notes dev s given b p.0 least le none.0 ss c.order_segments.ensures.contents low t kept

pub walk_log-requires-clause-long : goal.walk_log-requires-clause-long
walk_log-requires-clause-long g c =
    let dev = meaning_of g.D.ReadAt.bytes g.D.Device.capacity g.D.Device.block_size g.D.Device.loose g.D.Device.spare c.args.device.now in
    let notes = g.B.BlobSource.notes c.args.source.now in
    let given = c.args.given.now in
    let b = c.budget-budget.result in
    let s = c.in_ok-size.size in
    let p = passed_by notes dev s given b c.args.size c.in_ok-size.ensures in
    let fit = first_fit notes dev s given b p.0 in
    let e = ap (λ (q : Lent). q.segment) c.budget-budget.ensures in omega (arith, fit.segment)

pub walk_log-requires-clause-room : goal.walk_log-requires-clause-room
walk_log-requires-clause-room g c =
    let dev = meaning_of g.D.ReadAt.bytes g.D.Device.capacity g.D.Device.block_size g.D.Device.loose g.D.Device.spare c.args.device.now in
    let notes = g.B.BlobSource.notes c.args.source.now in
    let given = c.args.given.now in
    let b = c.budget-budget.result in
    let s = c.in_ok-size.size in
    let p = passed_by notes dev s given b c.args.size c.in_ok-size.ensures in
    let fit = first_fit notes dev s given b p.0 in
    let e = ap (λ (q : Lent). q.body) c.budget-budget.ensures in omega (arith, fit.body)

pub returns-in_err-reached-clause-told : goal.returns-in_err-reached-clause-told
returns-in_err-reached-clause-told g c =
    let dev = meaning_of g.D.ReadAt.bytes g.D.Device.capacity g.D.Device.block_size g.D.Device.loose g.D.Device.spare c.args.device.now in
    let notes = g.B.BlobSource.notes c.args.source.now in
    let given = c.args.given.now in
    let b = c.budget-budget.result in
    let s = c.in_ok-size.size in
    let p = passed_by notes dev s given b c.args.size c.in_ok-size.ensures in
    let low = c.unwrap_or-low.result in
    let lo = low_is given.stable_lsn low c.unwrap_or-low.ensures in
    let least = c.rounded.result in
    let le = least_is s given.stable_lsn low least c.unwrap_or-low.ensures c.rounded.ensures in
    let ss = contents c.order_segments.new.order in
    let start = c.in_ok-start.start in
    let none = fault_none _ start _ c.in_ok-start.ensures.reply in
    let t = c.load.new.self in
    let shown = c.load.ensures.pages low (given_sound notes dev s given b p.0 low lo) in
    let states = c.load.ensures.tables.states_size ∙ sym (ap (λ (q : Lent). q.pages) c.budget-budget.ensures) in
    let room = c.load.ensures.tables.fragments_size ∙ sym (ap (λ (q : Lent). q.fragments) c.budget-budget.ensures) in
    let u = c.walk_log.new.pages in
    let r = err_from_is_err_and c.from_residual-in_err-reached.result c.from_residual-in_err-reached.ensures.1 in
    as_asked notes dev s given b c.args.size _ p.1 c.budget-budget.ensures dev u c.from_residual-in_err-reached.result
    (refused notes dev s given b r.0 u c.from_residual-in_err-reached.result (at_walks notes dev s given b p.0 least le none.0 ss c.order_segments.ensures.contents start none.1 low lo t u shown states room r.0 (ap Err r.2 ∙ c.in_err-reached.ensures.reply)) r.1)

pub finish-requires-clause-long : goal.finish-requires-clause-long
finish-requires-clause-long g c =
    let dev = meaning_of g.D.ReadAt.bytes g.D.Device.capacity g.D.Device.block_size g.D.Device.loose g.D.Device.spare c.args.device.now in
    let notes = g.B.BlobSource.notes c.args.source.now in
    let given = c.args.given.now in
    let b = c.budget-budget.result in
    let s = c.in_ok-size.size in
    let p = passed_by notes dev s given b c.args.size c.in_ok-size.ensures in
    let fit = first_fit notes dev s given b p.0 in
    let e = ap (λ (q : Lent). q.segment) c.budget-budget.ensures in omega (arith, fit.segment, c.fill.auto.self, c.walk_log.auto.segment)

pub finish-requires-clause-block : goal.finish-requires-clause-block
finish-requires-clause-block g c =
    let dev = meaning_of g.D.ReadAt.bytes g.D.Device.capacity g.D.Device.block_size g.D.Device.loose g.D.Device.spare c.args.device.now in
    let notes = g.B.BlobSource.notes c.args.source.now in
    let given = c.args.given.now in
    let b = c.budget-budget.result in
    let s = c.in_ok-size.size in
    let p = passed_by notes dev s given b c.args.size c.in_ok-size.ensures in
    let fit = first_fit notes dev s given b p.0 in
    fit.block

pub finish-requires-clause-clean : goal.finish-requires-clause-clean
finish-requires-clause-clean g c =
    let dev = meaning_of g.D.ReadAt.bytes g.D.Device.capacity g.D.Device.block_size g.D.Device.loose g.D.Device.spare c.args.device.now in
    let notes = g.B.BlobSource.notes c.args.source.now in
    let given = c.args.given.now in
    let b = c.budget-budget.result in
    let s = c.in_ok-size.size in
    let p = passed_by notes dev s given b c.args.size c.in_ok-size.ensures in
    let low = c.unwrap_or-low.result in
    let lo = low_is given.stable_lsn low c.unwrap_or-low.ensures in
    let least = c.rounded.result in
    let le = least_is s given.stable_lsn low least c.unwrap_or-low.ensures c.rounded.ensures in
    let ss = contents c.order_segments.new.order in
    let start = c.in_ok-start.start in
    let none = fault_none _ start _ c.in_ok-start.ensures.reply in
    let t = c.load.new.self in
    let shown = c.load.ensures.pages low (given_sound notes dev s given b p.0 low lo) in
    let states = c.load.ensures.tables.states_size ∙ sym (ap (λ (q : Lent). q.pages) c.budget-budget.ensures) in
    let room = c.load.ensures.tables.fragments_size ∙ sym (ap (λ (q : Lent). q.fragments) c.budget-budget.ensures) in
    let u = c.walk_log.new.pages in
    let reached = c.in_ok-reached.reached in
    let done = c.in_ok-reached.ensures.reply in
    clean notes dev s given b p.0 least le none.0 ss c.order_segments.ensures.contents start none.1 low lo t u shown states room reached done

pub returns-in_err-stable_lsn-clause-told : goal.returns-in_err-stable_lsn-clause-told
returns-in_err-stable_lsn-clause-told g c =
    let dev = meaning_of g.D.ReadAt.bytes g.D.Device.capacity g.D.Device.block_size g.D.Device.loose g.D.Device.spare c.args.device.now in
    let notes = g.B.BlobSource.notes c.args.source.now in
    let given = c.args.given.now in
    let b = c.budget-budget.result in
    let s = c.in_ok-size.size in
    let p = passed_by notes dev s given b c.args.size c.in_ok-size.ensures in
    let low = c.unwrap_or-low.result in
    let lo = low_is given.stable_lsn low c.unwrap_or-low.ensures in
    let least = c.rounded.result in
    let le = least_is s given.stable_lsn low least c.unwrap_or-low.ensures c.rounded.ensures in
    let ss = contents c.order_segments.new.order in
    let start = c.in_ok-start.start in
    let none = fault_none _ start _ c.in_ok-start.ensures.reply in
    let t = c.load.new.self in
    let shown = c.load.ensures.pages low (given_sound notes dev s given b p.0 low lo) in
    let states = c.load.ensures.tables.states_size ∙ sym (ap (λ (q : Lent). q.pages) c.budget-budget.ensures) in
    let room = c.load.ensures.tables.fragments_size ∙ sym (ap (λ (q : Lent). q.fragments) c.budget-budget.ensures) in
    let u = c.walk_log.new.pages in
    let reached = c.in_ok-reached.reached in
    let done = c.in_ok-reached.ensures.reply in
    let after = meaning_of g.D.ReadAt.bytes g.D.Device.capacity g.D.Device.block_size g.D.Device.loose g.D.Device.spare c.finish.new.device in
    let v = c.settle.new.self in
    let r = err_from_is_err_and c.from_residual-in_err-stable_lsn.result c.from_residual-in_err-stable_lsn.ensures.1 in
    let f = c.in_err-stable_lsn.field-0.0 in
    let e = at_end notes dev s given b p.0 least le none.0 ss c.order_segments.ensures.contents start none.1 low lo t u shown states room reached done after f (c.in_err-stable_lsn.ensures.done notes (tidy 0 given.pages.now given.fragments.now) (budget_of b) (flat u)) in
    as_asked notes dev s given b c.args.size _ p.1 c.budget-budget.ensures after v c.from_residual-in_err-stable_lsn.result
    (subst (λ k. Attempted s dev (meaning_of g.D.ReadAt.bytes g.D.Device.capacity g.D.Device.block_size g.D.Device.loose g.D.Device.spare k) v (recover_of notes dev s given (budget_of b)) c.from_residual-in_err-stable_lsn.result) (sym c.in_err-stable_lsn.ensures.kept)
    (refused notes dev s given b f v c.from_residual-in_err-stable_lsn.result e (r.1 ∙ ap Err r.2)))

pub returns-clause-told : goal.returns-clause-told
returns-clause-told g c =
    let dev = meaning_of g.D.ReadAt.bytes g.D.Device.capacity g.D.Device.block_size g.D.Device.loose g.D.Device.spare c.args.device.now in
    let notes = g.B.BlobSource.notes c.args.source.now in
    let given = c.args.given.now in
    let b = c.budget-budget.result in
    let s = c.in_ok-size.size in
    let p = passed_by notes dev s given b c.args.size c.in_ok-size.ensures in
    let low = c.unwrap_or-low.result in
    let lo = low_is given.stable_lsn low c.unwrap_or-low.ensures in
    let least = c.rounded.result in
    let le = least_is s given.stable_lsn low least c.unwrap_or-low.ensures c.rounded.ensures in
    let ss = contents c.order_segments.new.order in
    let start = c.in_ok-start.start in
    let none = fault_none _ start _ c.in_ok-start.ensures.reply in
    let t = c.load.new.self in
    let shown = c.load.ensures.pages low (given_sound notes dev s given b p.0 low lo) in
    let states = c.load.ensures.tables.states_size ∙ sym (ap (λ (q : Lent). q.pages) c.budget-budget.ensures) in
    let room = c.load.ensures.tables.fragments_size ∙ sym (ap (λ (q : Lent). q.fragments) c.budget-budget.ensures) in
    let u = c.walk_log.new.pages in
    let reached = c.in_ok-reached.reached in
    let done = c.in_ok-reached.ensures.reply in
    let after = meaning_of g.D.ReadAt.bytes g.D.Device.capacity g.D.Device.block_size g.D.Device.loose g.D.Device.spare c.finish.new.device in
    let v = c.settle.new.self in
    as_asked notes dev s given b c.args.size _ p.1 c.budget-budget.ensures after v _
    (attempted notes dev s given b p.0 least le none.0 ss c.order_segments.ensures.contents start none.1 low lo t u shown states room reached done after c.in_ok-stable_lsn.stable_lsn c.in_ok-stable_lsn.active_segment
    (c.in_ok-stable_lsn.ensures.done notes (tidy 0 given.pages.now given.fragments.now) (budget_of b) (flat u)) v (c.settle.ensures.settled done.top done.kept) c.count.result c.used.result c.count.ensures c.used.ensures)
