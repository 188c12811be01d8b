use Rattle.std.proofs.Common.{◌≡◌, drop}
use Rattle.pages.specs.Passes.{passes}
use Rattle.pages.proofs.formed.are_sound.Given as goal

abbrev pub invariant-loop-pid : goal.invariant-loop-pid
invariant-loop-pid l = passes l.pid l.top (drop l.pid l.pages) l.rest ≡ passes 0 l.top l.pages l.fragments
