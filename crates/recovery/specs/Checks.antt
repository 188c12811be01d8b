-- What a recover looks at before it reads a segment. Assumes nothing.
--   budget_of b       how much memory is lent
--   first_reply ..    the first refusal that applies, or the size
use Rattle.std.specs.Prelude.{ℕ, Some, None, Ok, Err, Option, Result}
use Rattle.device.specs.Meaning.{Meaning}
use Rattle.pages.specs.Shown.{tidy}
use Rattle.pages.specs.Snapshots.{snap_of}
use Rattle.pages.specs.declared.snapshot.Snapshot.{Snapshot}
use Rattle.refusals.specs.declared.refusal.Refusal.{Refusal}
use Rattle.walks.specs.Recover.{Budget, checked, at_first}
use Rattle.recovery.specs.declared.checks.Budget.{Budget as Lent}

abbrev pub budget_of : Lent → Budget
budget_of b = record { segment = b.segment; body = b.body; order = b.order; pages = b.pages; fragments = b.fragments }

unfoldable pub unless_some : Option Refusal → ℕ → Result ℕ Refusal
unless_some None size = Ok size
unless_some (Some f) size = Err f

unfoldable pub first_reply : Meaning → ℕ → Snapshot → Lent → Result ℕ Refusal
first_reply device size given b =
    unless_some (checked (at_first (λ p. None) device size (tidy 0 given.pages.now given.fragments.now) (snap_of given) (budget_of b))) size
