use Rattle.std.proofs.Common.{take, drop, arith, length-take}
use Rattle.recovery.proofs.Loads.{load_is}
use Rattle.recovery.proofs.course.Course.load.Goals as goal

pub returns-clause-bytes : goal.returns-clause-bytes
returns-clause-bytes g c =
    let w = c.args.self.now in
    let size = c.bytes-size.result in
    let buffer = c.args.buffer.now in
    let a = c.pread_exact_or_eof.ensures in
    load_is (g.D.ReadAt.first w.device.now) c.args.place w.size c.unwrap_or.result (g.D.ReadAt.bytes w.device.now) (take size buffer) c.pread_exact_or_eof.new.dst (drop size buffer) c.pread_exact_or_eof.result
    (g.met.D.Device.base w.device.now) (omega (arith, length-take size buffer, c.requires)) a.reply a.after c.unwrap_or.ensures
