use Rattle.std.proofs.Common.{arith, rules}
use Rattle.recovery.proofs.Rounds.{ended_next}
use Rattle.recovery.proofs.finish.end_at.Goals as goal

pub returns-in-None-clause-end : goal.returns-in-None-clause-end
returns-in-None-clause-end c =
    λ ps zs. ended_next c.args.size c.args.current c.next_multiple_of.result (omega (arith, c.bytes-size.ensures.bounds)) (search rules) ps zs c.args.held (search rules)
