use Rattle.std.proofs.Common.{List, MutBor, length, ap, arith}
use Rattle.pages.specs.declared.page_state.PageState.{PageState}
use Rattle.recovery.specs.Flat.{Roomy}
use Rattle.recovery.proofs.Applies.{skipped-taken, full-refused, present_fits, linked-taken}
use Rattle.recovery.proofs.page_table.PageTable.link.Goals as goal

pub returns-in_default : goal.returns-in_default
returns-in_default c =
    let d = skipped-taken c.args.self.now c.args.r c.requires.kept c.requires.pid c.requires.kind c.in_default.not-Present in
    record { reply = d.reply; pages = d.pages; kept = d.kept; refused = tt; tables = d.tables }

pub returns-then-self-clause-reply : goal.returns-then-self-clause-reply
returns-then-self-clause-reply c =
    rw c.place_of.ensures
    (full-refused c.args.self.now c.args.r c.requires.kept c.requires.pid c.requires.kind c.in-Present.base c.in-Present.n c.in-Present.is c.if-self.true)

pub overflow_add-n : goal.overflow_add-n
overflow_add-n c =
    let l = present_fits c.args.self.now c.args.r c.requires.kept c.requires.pid c.requires.kind c.in-Present.base c.in-Present.n c.in-Present.is in
    omega (arith, c.requires.kept.live)

pub append-requires : goal.append-requires
append-requires c =
    let m : Roomy c.args.r.lsn c.args.self.now c.make_room.new.self = c.make_room.ensures c.args.r.lsn c.requires.kept in
    let s = ap (λ (y : MutBor (List PageState)). length y.now) m.states in
    record { pid = omega arith; used = m.room; live = omega (arith, m.live, m.size, c.requires.kept.live) }

pub returns : goal.returns
returns c =
    let m = c.make_room.ensures c.args.r.lsn c.requires.kept in
    let d =
    linked-taken c.args.self.now c.args.r c.requires.kept c.requires.pid c.requires.kind c.in-Present.base c.in-Present.n c.in-Present.is c.make_room.new.self m c.item_of.result c.item_of.ensures
    (omega (arith, c.requires.kept.live)) c.append.new.self c.append.ensures in
    record { reply = d.reply; pages = d.pages; kept = d.kept; refused = tt; tables = d.tables }
