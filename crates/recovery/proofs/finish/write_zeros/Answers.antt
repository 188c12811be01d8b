-- `write_zeros`: each write leaves one run less.
use Rattle.walks.specs.Finish.{wholes}
use Rattle.recovery.specs.Finishing.{meaning_of, with_rest}
use Rattle.recovery.proofs.Zeros.{rest_none, rest_run, rest_more, whole_end, whole_run, whole_more}
use Rattle.recovery.proofs.finish.write_zeros.Goals as goal
use Rattle.recovery.proofs.finish.write_zeros.Goals.{in-Some, in_default}

pub zero_run-requires-clause-fitting : goal.zero_run-requires-clause-fitting
zero_run-requires-clause-fitting g c =
    let m = meaning_of g.D.ReadAt.bytes g.D.Device.capacity g.D.Device.block_size g.D.Device.loose g.D.Device.spare in
    (rest_run (m c.args.device.now) c.args.rest (wholes c.args.size c.args.left.now) c.requires.takes c.in-Some.r c.in-Some.is).0

pub zero_run-requires-clause-paid : goal.zero_run-requires-clause-paid
zero_run-requires-clause-paid g c =
    let m = meaning_of g.D.ReadAt.bytes g.D.Device.capacity g.D.Device.block_size g.D.Device.loose g.D.Device.spare in
    (rest_run (m c.args.device.now) c.args.rest (wholes c.args.size c.args.left.now) c.requires.takes c.in-Some.r c.in-Some.is).1

pub loop-s-init : goal.loop-s-init
loop-s-init g c =
    let m = meaning_of g.D.ReadAt.bytes g.D.Device.capacity g.D.Device.block_size g.D.Device.loose g.D.Device.spare in
    let v = m c.args.device.now in
    let zs = wholes c.args.size c.args.left.now in
    elim c.match-rest.branch [
      | in-Some w ↦ rw w.device-is (rest_more v c.args.rest zs c.requires.takes w.in-Some.r w.in-Some.is (m w.zero_run.new.device) w.zero_run.ensures)
      | in_default w ↦ rw w.device-is (rest_none v c.args.rest zs c.requires.takes w.in_default.is)
    ]

pub zero_run-requires-in-loop-s-clause-fitting : goal.zero_run-requires-in-loop-s-clause-fitting
zero_run-requires-in-loop-s-clause-fitting g c =
    let m = meaning_of g.D.ReadAt.bytes g.D.Device.capacity g.D.Device.block_size g.D.Device.loose g.D.Device.spare in
    (whole_run c.args.size c.loop-s.s-index (m c.args.device.now) (m c.loop-s.device) (with_rest c.args.rest (wholes c.args.size c.args.left.now)) c.args.left.now c.loop-s.invariant (record { key = 0; value = 0 }) c.bytes.result
    c.loop-s-test.true c.bytes.ensures.value).0

pub zero_run-requires-in-loop-s-clause-paid : goal.zero_run-requires-in-loop-s-clause-paid
zero_run-requires-in-loop-s-clause-paid g c =
    let m = meaning_of g.D.ReadAt.bytes g.D.Device.capacity g.D.Device.block_size g.D.Device.loose g.D.Device.spare in
    (whole_run c.args.size c.loop-s.s-index (m c.args.device.now) (m c.loop-s.device) (with_rest c.args.rest (wholes c.args.size c.args.left.now)) c.args.left.now c.loop-s.invariant (record { key = 0; value = 0 }) c.bytes.result
    c.loop-s-test.true c.bytes.ensures.value).1

pub loop-s-preserved : goal.loop-s-preserved
loop-s-preserved g c =
    let m = meaning_of g.D.ReadAt.bytes g.D.Device.capacity g.D.Device.block_size g.D.Device.loose g.D.Device.spare in
    whole_more c.args.size c.loop-s.s-index (m c.args.device.now) (m c.loop-s.device) (with_rest c.args.rest (wholes c.args.size c.args.left.now)) c.args.left.now c.loop-s.invariant (record { key = 0; value = 0 }) c.bytes.result
    c.loop-s-test.true c.bytes.ensures.value (m c.zero_run-in-loop-s.new.device) c.zero_run-in-loop-s.ensures

pub returns : goal.returns
returns g c =
    let m = meaning_of g.D.ReadAt.bytes g.D.Device.capacity g.D.Device.block_size g.D.Device.loose g.D.Device.spare in
    whole_end c.args.size c.loop-s.s-index (m c.args.device.now) (m c.loop-s.device) (with_rest c.args.rest (wholes c.args.size c.args.left.now)) c.args.left.now c.loop-s.invariant c.loop-s-test.false
