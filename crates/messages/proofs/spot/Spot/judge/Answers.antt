use Rattle.std.proofs.Common.{◌+◌, ◌-◌, ◌<◌, ◌≤◌, arith}
use Rattle.std.proofs.lemmas.Grind.{common_steps}
use Rattle.messages.specs.Raw.{ahead, judged}
use Rattle.messages.proofs.Judges.{header_is, body_is, long_is}
use Rattle.messages.proofs.spot.Spot.judge.Goals as goal

pub returns-then-n-hl-clause-value : goal.returns-then-n-hl-clause-value
unfolding judged
returns-then-n-hl-clause-value g c =
    let s = c.args.self.now in
    let h = c.args.h in
    let hl = c.args.hl in
    let e = c.requires.entered in
    let w = ahead (g.R.ReadAt.bytes s.view.now) (s.place - g.R.ReadAt.first s.view.now) in
    let l : hl + h.len ≤ 128 = omega arith in
    let x = header_is c.args.w.now w hl e.window c.requires.short in
    let y = body_is c.args.w.now w hl h.len e.window l in
    rw (c.decide.ensures, x, y) (grind (arith, common_steps))

pub returns-clause-value : goal.returns-clause-value
unfolding judged
returns-clause-value g c =
    let s = c.args.self.now in
    let h = c.args.h in
    let hl = c.args.hl in
    let e = c.requires.entered in
    let l : 128 < hl + h.len = omega arith in
    let some : 0 < h.len = omega (arith, c.requires.short) in
    rw (long_is h s.number (g.R.ReadAt.first s.view.now) s.place hl (g.R.ReadAt.bytes s.view.now) c.args.w.now c.judge_long.result e.begun e.ended some e.window c.requires.short c.judge_long.ensures.value)
    (grind (arith, common_steps))
