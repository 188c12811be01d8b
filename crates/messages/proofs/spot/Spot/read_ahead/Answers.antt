use Rattle.std.proofs.Common.{◌≡◌, ◌^◌, ◌<◌, List, ℕ, length, Ok, ap, ◌∙◌, subst, rules}
use Rattle.device.specs.Reads.{filled, eof_reply}
use Rattle.messages.proofs.Entries.{entered}
use Rattle.messages.proofs.spot.Spot.read_ahead.Goals as goal

pub returns : goal.returns
returns g c =
    let s = c.args.self.now in
    let first = g.R.ReadAt.first s.view.now in
    let bytes = g.R.ReadAt.bytes s.view.now in
    let a = c.in_ok-pread_exact_or_eof.ensures in
    let l : s.place < 2 ^ 64 = search rules in
    let reply = subst (λ (w : List ℕ). Ok c.in_ok-pread_exact_or_eof.field-0 ≡ eof_reply first bytes s.place (length w)) c.requires.zeros a.reply in
    let after = subst (λ (w : List ℕ). c.pread_exact_or_eof.new.dst ≡ filled first bytes s.place w) c.requires.zeros a.after in
    entered s.size s.place first c.in_ok-pread_exact_or_eof.field-0 bytes c.pread_exact_or_eof.new.dst
    c.requires.sized l c.requires.entry reply (c.pread_exact_or_eof.auto.dst ∙ ap length c.requires.zeros) after
