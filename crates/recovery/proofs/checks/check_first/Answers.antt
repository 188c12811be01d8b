use Rattle.std.proofs.Common.{arith}
use Rattle.std.proofs.lemmas.Grind.{common_steps}
use Rattle.pages.proofs.Layouts.{length-nested, fragments-nested}
use Rattle.pages.specs.Snapshots.{snap_of, formed}
use Rattle.walks.specs.Recover.{checked, at_first}
use Rattle.recovery.specs.Checks.{first_reply, unless_some}
use Rattle.recovery.proofs.checks.check_first.Goals as goal

pub returns-then-budget-given : goal.returns-then-budget-given
unfolding first_reply unless_some checked at_first formed snap_of
returns-then-budget-given g c =
    let s = c.args.given.now in
    let l = length-nested s.pages.now s.fragments.now in
    grind (arith, common_steps)

pub returns-then-budget-given-2 : goal.returns-then-budget-given-2
unfolding first_reply unless_some checked at_first formed snap_of
returns-then-budget-given-2 g c =
    let s = c.args.given.now in
    let l = length-nested s.pages.now s.fragments.now in
    let f = fragments-nested 0 s.pages.now s.fragments.now in
    grind (arith, common_steps)

pub returns : goal.returns
unfolding first_reply unless_some checked at_first formed snap_of
returns g c =
    let s = c.args.given.now in
    let l = length-nested s.pages.now s.fragments.now in
    let f = fragments-nested 0 s.pages.now s.fragments.now in
    grind (arith, common_steps)
