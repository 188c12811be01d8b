use Rattle.std.proofs.Common.{◌+◌, ◌≤◌, length, sym, subst}
use Rattle.codec.proofs.Forms.{number-least, examples}
use Rattle.codec.proofs.number.number_len.Goals as goal

pub returns : goal.returns
returns c = record {
  value = c.form_len.ensures.value;
  least = λ bs rest f e. subst (λ k. k + length rest ≤ length bs) (sym c.form_len.ensures.value) (number-least c.args.n bs rest f e);
  examples = examples;
}
