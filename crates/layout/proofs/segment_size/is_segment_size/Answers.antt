use Rattle.std.proofs.Common.{◌≡◌, sym, ◌∙◌, rules}
use Rattle.layout.specs.Sizes.{is_segment_size}
use Rattle.layout.proofs.Powers.{size-power}
use Rattle.layout.proofs.segment_size.is_segment_size.Goals as goal

pub returns-then-size-le-MAX_SEGMENT_SIZE : goal.returns-then-size-le-MAX_SEGMENT_SIZE
returns-then-size-le-MAX_SEGMENT_SIZE c =
    let value : c.is_power_of_two.result ≡ is_segment_size c.args.size = search rules in
    record { value = value; power = λ e. size-power c.args.size (sym value ∙ e) }
