use Rattle.std.proofs.Common.{◌≡◌, ◌+◌, ◌≤◌, drop}
use Rattle.cover.specs.Entries.{unmarked}
use Rattle.cover.proofs.block_table.BlockTable.unmarked.Given as goal

abbrev pub invariant-loop-entry : goal.invariant-loop-entry
invariant-loop-entry l = (l.n ≤ l.entry-index) × (l.n + unmarked (drop l.entry-index l.entries) ≡ unmarked l.entries)
