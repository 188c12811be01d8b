use Rattle.recovery.proofs.Applies.{far, renewed_fits, replaced-taken, freed-taken}
use Rattle.recovery.proofs.page_table.PageTable.apply.Goals as goal

pub returns-then-pid-self-clause-reply : goal.returns-then-pid-self-clause-reply
returns-then-pid-self-clause-reply c = rw c.place_of.ensures (far _ _ _ c.args.r c.if-pid-self.true)

pub renew-requires-clause-live : goal.renew-requires-clause-live
renew-requires-clause-live c = renewed_fits c.args.self.now c.args.r c.requires c.if-pid-self.false

pub renew-requires-in-Free-clause-live : goal.renew-requires-in-Free-clause-live
renew-requires-in-Free-clause-live c = renewed_fits c.args.self.now c.args.r c.requires c.if-pid-self.false

pub returns-in-Replace : goal.returns-in-Replace
returns-in-Replace c =
    let d = replaced-taken c.args.self.now c.args.r c.requires c.if-pid-self.false c.renew.new.self c.item_of.result c.in-Replace.is c.item_of.ensures c.renew.ensures in
    record { reply = d.reply; pages = d.pages; kept = d.kept; refused = tt; tables = d.tables }

pub returns-in-Free : goal.returns-in-Free
returns-in-Free c =
    let d = freed-taken c.args.self.now c.args.r c.requires c.if-pid-self.false c.renew-in-Free.new.self c.in-Free.is c.renew-in-Free.ensures in
    record { reply = d.reply; pages = d.pages; kept = d.kept; refused = tt; tables = d.tables }
