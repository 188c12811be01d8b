-- `finish`: what is known at each end.
use Rattle.std.proofs.Common.{arith}
use Rattle.pages.specs.Snapshots.{snap_of}
use Rattle.recovery.specs.Finishing.{meaning_of}
use Rattle.recovery.proofs.Finishes.{held_small, finish_takes, finished_fell, finished_spent, finished_ok}
use Rattle.recovery.proofs.finish.finish.Goals as goal

pub end-end-requires-clause-held : goal.end-end-requires-clause-held
end-end-requires-clause-held g c =
    let m = meaning_of g.D.ReadAt.bytes g.D.Device.capacity g.D.Device.block_size g.D.Device.loose g.D.Device.spare in
    held_small c.args.size (m c.args.device.now).capacity c.args.reached c.requires.clean

pub returns-then-unwrap_or-clause-done : goal.returns-then-unwrap_or-clause-done
unfolding snap_of
returns-then-unwrap_or-clause-done g c =
    let m = meaning_of g.D.ReadAt.bytes g.D.Device.capacity g.D.Device.block_size g.D.Device.loose g.D.Device.spare in
    let e = c.end-end in
    λ notes laid budget ps.
    finished_fell c.args.size (snap_of c.args.given.now) c.args.reached (m c.args.device.now) e.result c.requires.block c.requires.clean e.ensures.rest notes laid budget ps (e.ensures.end ps) c.unwrap_or.result c.unwrap_or-2.result c.unwrap_or.ensures
    c.unwrap_or-2.ensures c.if-unwrap_or.true

pub returns-then-needed-spare-clause-done : goal.returns-then-needed-spare-clause-done
unfolding snap_of
returns-then-needed-spare-clause-done g c =
    let m = meaning_of g.D.ReadAt.bytes g.D.Device.capacity g.D.Device.block_size g.D.Device.loose g.D.Device.spare in
    let e = c.end-end in
    λ notes laid budget ps.
    finished_spent c.args.size (snap_of c.args.given.now) c.args.reached (m c.args.device.now) e.result c.requires.block c.requires.clean e.ensures.rest notes laid budget ps (e.ensures.end ps) c.unwrap_or.result c.unwrap_or-2.result c.unwrap_or.ensures
    c.unwrap_or-2.ensures c.if-unwrap_or.false c.needed.result c.needed.ensures (omega (arith, c.spare.ensures.value, c.if-needed-spare.true))

pub write_zeros-requires-clause-takes : goal.write_zeros-requires-clause-takes
write_zeros-requires-clause-takes g c =
    let m = meaning_of g.D.ReadAt.bytes g.D.Device.capacity g.D.Device.block_size g.D.Device.loose g.D.Device.spare in
    let e = c.end-end in
    finish_takes c.args.size (snap_of c.args.given.now) c.args.reached (m c.args.device.now) e.result c.requires.block c.requires.clean e.ensures.rest c.needed.result c.needed.ensures (omega (arith, c.spare.ensures.value, c.if-needed-spare.false))

pub returns-clause-done : goal.returns-clause-done
unfolding snap_of
returns-clause-done g c =
    let m = meaning_of g.D.ReadAt.bytes g.D.Device.capacity g.D.Device.block_size g.D.Device.loose g.D.Device.spare in
    let e = c.end-end in
    λ notes laid budget ps.
    finished_ok c.args.size (snap_of c.args.given.now) c.args.reached (m c.args.device.now) e.result c.requires.block c.requires.clean e.ensures.rest notes laid budget ps (e.ensures.end ps) c.unwrap_or.result c.unwrap_or-2.result c.unwrap_or.ensures
    c.unwrap_or-2.ensures c.if-unwrap_or.false c.needed.result c.needed.ensures (m c.write_zeros.new.device) (omega (arith, c.spare.ensures.value, c.if-needed-spare.false)) c.write_zeros.ensures
