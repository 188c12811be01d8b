-- `recover`: the tables are what they were lent for.
use Rattle.std.proofs.Common.{rules, ℕ, Result, length, sym, ap₂, subst, ◌∙◌}
use Rattle.refusals.specs.declared.refusal.Refusal.{Refusal}
use Rattle.walks.specs.Finish.{Ended}
use Rattle.recovery.specs.Finishing.{meaning_of}
use Rattle.recovery.specs.Recovers.{lent, recover_of, Attempted}
use Rattle.recovery.proofs.Results.{done_refused, done_accepted}
use Rattle.recovery.proofs.recovered.recover.Goals.{then-is_err, else-is_err}
use Rattle.recovery.proofs.recovered.recover.Goals as goal

pub returns-clause-done : goal.returns-clause-done
returns-clause-done g c =
    let dev = meaning_of g.D.ReadAt.bytes g.D.Device.capacity g.D.Device.block_size g.D.Device.loose g.D.Device.spare c.args.device.now in
    let after = meaning_of g.D.ReadAt.bytes g.D.Device.capacity g.D.Device.block_size g.D.Device.loose g.D.Device.spare c.attempt-reply.new.device in
    let t = c.attempt-reply.new.pages in
    let x : ℕ → ℕ → Result Ended Refusal = λ n m. recover_of (g.B.BlobSource.notes c.args.source.now) dev c.args.size c.args.given.now (lent (length c.args.segment.now) (length c.args.body.now) (length c.args.order.now) n m) in
    let r = c.attempt-reply.result in
    let told = subst (λ y. Attempted c.args.size dev after t y r) (ap₂ x c.new-table.ensures.states_size c.new-table.ensures.fragments_size) c.attempt-reply.ensures.told in
    let states = c.attempt-reply.ensures.tables.states ∙ c.new-table.ensures.states in
    let fragments = c.attempt-reply.ensures.tables.fragments ∙ c.new-table.ensures.fragments in
    let y = x (length c.args.pages.now) (length c.args.fragments.now) in
    elim c.if-is_err.branch [
      | then-is_err w ↦
          (let n = sym (w.clear.ensures.tables.states ∙ states) in
          let m = sym (w.clear.ensures.tables.fragments ∙ fragments) in
          done_refused c.args.size dev after t y r told c.if-is_err.pages c.if-is_err.fragments (sym c.is_err.ensures.value ∙ w.if-is_err.true) w.clear.new.self w.clear.ensures.cleared (search rules) (search rules))
      | else-is_err w ↦
          (let n = sym states in
          let m = sym fragments in
          done_accepted c.args.size dev after t y r told c.if-is_err.pages c.if-is_err.fragments (sym c.is_err.ensures.value ∙ w.if-is_err.false) (search rules) (search rules))
    ]
