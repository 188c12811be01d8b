use Rattle.std.proofs.Common.{sym}
use Rattle.recovery.proofs.States.{e-none, e-past, e-take}
use Rattle.recovery.proofs.iterator.LogIter.enter.Goals as goal

pub returns-in_default : goal.returns-in_default
returns-in_default g c = e-none g.B.BlobSource.notes g.D.ReadAt.bytes c.args.buffer.now c.args.body c.args.self.now c.requires.sane c.requires.none c.in_default.ensures.cases

pub returns-then-past : goal.returns-then-past
returns-then-past g c =
    e-past g.B.BlobSource.notes g.D.ReadAt.bytes c.args.buffer.now c.args.body c.args.self.now c.requires.sane c.requires.none c.in-Some.s.now c.in-Some.others.now c.in-Some.ensures.cases.0 (sym c.if-past.ensures)

pub returns : goal.returns
returns g c =
    e-take g.B.BlobSource.notes g.D.ReadAt.bytes c.args.buffer.now c.args.body c.args.self.now c.requires.sane c.requires.none c.in-Some.s.now c.in-Some.others c.in-Some.ensures.cases.0
    c.load-have.new.buffer c.load-have.result c.load-have.ensures.sized (sym c.if-past.ensures) c.load-have.auto.buffer c.load-have.ensures.within c.load-have.ensures.bytes
