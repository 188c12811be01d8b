-- The faults of a table, each by its number, and the reply of an insert. Assumes nothing.
use Rattle.std.specs.Prelude.{ℕ, if◌then◌else◌, ◌||◌, List, length, is_some, Ok, Err, Result, nat_lt}
use Rattle.tables.specs.declared.entry.Entry.{Entry}
use Rattle.tables.specs.declared.fault.TableFault.{TableFault}
use Rattle.tables.specs.declared.fault.TableFault.TheVariants.{Full}
use Rattle.tables.specs.Entries.{find}

abbrev pub number : TableFault → ℕ
number Full = 11

-- a key that the map has is always accepted, and a new one where an entry of the slice is spare
abbrev pub reply : {V : Type 0} → ℕ → ℕ → List (Entry V) → Result (Unit {0}) TableFault
reply size key es = if is_some (find key es) || nat_lt (length es) size then Ok tt else Err Full
