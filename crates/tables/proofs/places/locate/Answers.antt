use Rattle.std.proofs.Common.{arith}
use Rattle.tables.proofs.Halves.{between_all, between_up, between_down, between_found, between_none}
use Rattle.tables.proofs.places.locate.Goals as goal

pub loop-low-init : goal.loop-low-init
loop-low-init g c = between_all c.args.key c.args.entries.now

pub returns-then-found-key-clause-located : goal.returns-then-found-key-clause-located
returns-then-found-key-clause-located g c = between_found c.args.key c.args.entries.now c.loop-low.low c.loop-low.high c.index-entries-mid.result c.loop-low.invariant c.loop-low-test.true c.requires c.if-found-key.true

pub loop-low-preserved-then-found-key-2 : goal.loop-low-preserved-then-found-key-2
loop-low-preserved-then-found-key-2 g c = between_up c.args.key c.args.entries.now c.loop-low.low c.loop-low.high c.index-entries-mid.result c.loop-low.invariant c.loop-low-test.true c.requires c.if-found-key-2.true

pub loop-low-preserved : goal.loop-low-preserved
loop-low-preserved g c = between_down c.args.key c.args.entries.now c.loop-low.low c.loop-low.high c.index-entries-mid.result c.loop-low.invariant c.loop-low-test.true c.if-found-key.false c.if-found-key-2.false

pub returns-clause-located : goal.returns-clause-located
returns-clause-located g c = between_none c.args.key c.args.entries.now c.loop-low.low c.loop-low.high c.loop-low.invariant c.loop-low-test.false c.requires

pub returns-clause-within : goal.returns-clause-within
returns-clause-within g c = omega (arith, c.loop-low.invariant.within, c.loop-low-test.false)
