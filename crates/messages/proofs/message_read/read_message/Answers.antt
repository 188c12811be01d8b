use Rattle.std.proofs.Common.{◌/◌, ◌^◌, ◌<◌, length, ap, ◌∙◌, rules}
use Rattle.std.proofs.lemmas.Bool.{cond-true, le-leb}
use Rattle.messages.specs.Told.{understood}
use Rattle.messages.proofs.Round.{message_round}
use Rattle.messages.proofs.message_read.read_message.Goals as goal

pub returns : goal.returns
returns g c =
    let size = c.args.size in
    let lsn = c.args.lsn in
    let small : lsn / size < 2 ^ 64 = search rules in
    record {
      reply = c.read_checked.ensures.reply;
      body = c.read_checked.ensures.body;
      written = λ kind page content z room s.
          c.read_checked.ensures.reply ∙ cond-true _ _ _ z ∙ cond-true _ _ _ (le-leb size (length c.args.body.now) room)
          ∙ ap (understood (g.B.BlobSource.notes c.args.source.now) c.args.place lsn) (message_round size (lsn / size) (g.R.ReadAt.first c.args.view.now) c.args.place page (g.R.ReadAt.bytes c.args.view.now) content kind z small s);
    }
