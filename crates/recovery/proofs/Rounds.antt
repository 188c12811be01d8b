-- A log that goes on with the next segment. Assumes nothing.
use Rattle.std.proofs.Common.{◌≡◌, ℕ, ◌+◌, ◌%◌, ◌<◌, ◌≤◌, List, Some, None, Option, refl, arith}
use Rattle.std.proofs.lemmas.Bool.Decides.{nat_tests}
use Rattle.std.specs.Int.{next_multiple_of}
use Rattle.pages.specs.Pages.{Page}
use Rattle.scan.specs.Order.{Segment}
use Rattle.walks.specs.Finish.{behind, ended}
use Rattle.recovery.specs.Finishing.{EndIs}
use Rattle.recovery.specs.declared.finish.End.{End}

module _ (size c n : ℕ) (wide : 32 < size) (is : n ≡ next_multiple_of c size) (ps : List Page) (zs : List (ℕ × ℕ)) where
  abbrev next : End
  next = record { stable = Some n; active = None; rest = None }

  ended_full : (s : Segment) → size ≤ c % size + 32 → EndIs next zs (ended size c ps (Some s) zs)
  unfolding ended behind
  ended_full s h = grind (arith, nat_tests)

  ended_none : EndIs next zs (ended size c ps None zs)
  unfolding ended behind
  ended_none = grind (arith, nat_tests)

  pub ended_next : (held : Option Segment) → ((s : Segment) → held ≡ Some s → size ≤ c % size + 32) → EndIs next zs (ended size c ps held zs)
  ended_next None f = ended_none
  ended_next (Some s) f = ended_full s (f s refl)
