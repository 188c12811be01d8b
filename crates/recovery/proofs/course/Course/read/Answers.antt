use Rattle.std.proofs.Common.{length}
use Rattle.recovery.proofs.Loads.{read_held}
use Rattle.recovery.proofs.course.Course.read.Goals as goal

pub returns : goal.returns
returns g c =
    let w = c.args.self.now in
    let h = c.args.held in
    read_held (g.B.BlobSource.notes w.source.now) w.size c.bytes.result (length c.args.body.now) h.have h.progress (g.D.ReadAt.bytes w.device.now) c.args.buffer.now h.segment c.read_message.result
    c.bytes.ensures.value c.bytes.ensures.sized c.requires.room c.requires.bytes c.read_message.ensures.reply
