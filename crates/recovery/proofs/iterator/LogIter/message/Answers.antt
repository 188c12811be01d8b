use Rattle.std.proofs.Common.{length}
use Rattle.std.proofs.lemmas.Result.{err_from_is_err_and}
use Rattle.recovery.proofs.States.{m-out, m-past, yield-fits, pass_fits, m-yield, m-pass, m-release, m-stop, m-fail}
use Rattle.recovery.proofs.iterator.LogIter.message.Goals as goal

pub returns-then-not-is_entry : goal.returns-then-not-is_entry
returns-then-not-is_entry g c = m-out g.B.BlobSource.notes g.D.ReadAt.bytes c.args.buffer.now (length c.args.body.now) c.args.self.now c.requires.sane c.args.held c.requires.held (cc)

pub returns-then-past : goal.returns-then-past
returns-then-past g c = m-past g.B.BlobSource.notes g.D.ReadAt.bytes c.args.buffer.now (length c.args.body.now) c.args.self.now c.requires.sane c.args.held c.requires.held (cc) (cc)

pub returns-in_err-record : goal.returns-in_err-record
returns-in_err-record g c =
    let r = err_from_is_err_and c.from_residual.result c.from_residual.ensures.1 in
    rw r.1 (m-fail g.B.BlobSource.notes g.D.ReadAt.bytes c.args.buffer.now (length c.args.body.now) c.args.self.now c.requires.sane c.args.held c.requires.held (cc) (cc) (cc) r.0 (cc (c.in_err-record.ensures, r.2)))

pub pass-requires : goal.pass-requires
pass-requires g c =
    let k = yield-fits g.B.BlobSource.notes g.D.ReadAt.bytes c.args.buffer.now (length c.args.body.now) c.args.self.now c.requires.sane c.args.held c.requires.held (cc) (cc) (cc) c.in-Yield.record (cc c.in_ok-record.ensures) in
    record { progress = k.0; lsn = k.1 }

pub pass-requires-in-Pass : goal.pass-requires-in-Pass
pass-requires-in-Pass g c =
    let k = pass_fits g.B.BlobSource.notes g.D.ReadAt.bytes c.args.buffer.now (length c.args.body.now) c.args.self.now c.requires.sane c.args.held c.requires.held (cc) (cc) (cc) c.in-Pass.len (cc c.in_ok-record.ensures) in
    record { progress = k.0; lsn = k.1 }

pub returns-in-Yield : goal.returns-in-Yield
returns-in-Yield g c = rw c.pass.ensures (m-yield g.B.BlobSource.notes g.D.ReadAt.bytes c.args.buffer.now (length c.args.body.now) c.args.self.now c.requires.sane c.args.held c.requires.held (cc) (cc) (cc) c.in-Yield.record (cc c.in_ok-record.ensures))

pub returns-in-Pass : goal.returns-in-Pass
returns-in-Pass g c = rw c.pass-in-Pass.ensures (m-pass g.B.BlobSource.notes g.D.ReadAt.bytes c.args.buffer.now (length c.args.body.now) c.args.self.now c.requires.sane c.args.held c.requires.held (cc) (cc) (cc) c.in-Pass.len (cc c.in_ok-record.ensures))

pub returns-in-Release : goal.returns-in-Release
returns-in-Release g c = m-release g.B.BlobSource.notes g.D.ReadAt.bytes c.args.buffer.now (length c.args.body.now) c.args.self.now c.requires.sane c.args.held c.requires.held (cc) (cc) (cc) (cc c.in_ok-record.ensures)

pub returns-in-Stop : goal.returns-in-Stop
returns-in-Stop g c = m-stop g.B.BlobSource.notes g.D.ReadAt.bytes c.args.buffer.now (length c.args.body.now) c.args.self.now c.requires.sane c.args.held c.requires.held (cc) (cc) (cc) (cc c.in_ok-record.ensures)
