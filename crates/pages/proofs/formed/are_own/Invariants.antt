use Rattle.std.proofs.Common.{◌≡◌, drop}
use Rattle.pages.specs.Passes.{own}
use Rattle.pages.proofs.formed.are_own.Given as goal

abbrev pub invariant-loop-fragment : goal.invariant-loop-fragment
invariant-loop-fragment l = own l.pid l.next l.top (drop l.fragment-index l.fragments) ≡ own l.pid l.low l.top l.fragments
