-- Adding a file to a bank. Assumes nothing.
--   extent_at p at n     the entry of a file of n bytes that begins at `at`
--   add_reply ..         whether the bytes left hold it, then whether the table takes its pointer
use Rattle.std.specs.Prelude.{ℕ, ◌+◌, if◌then◌else◌, List, Ok, Err, Result, nat_le}
use Rattle.tables.specs.Faults.{reply}
use Rattle.tables.specs.declared.entry.Entry.{Entry}
use Rattle.tables.specs.declared.fault.TableFault.{TableFault}
use Rattle.blobs.specs.declared.fault.BankFault.{BankFault}
use Rattle.blobs.specs.declared.fault.BankFault.TheVariants.{NoRoom, Table}
use Rattle.blobs.specs.declared.note.Extent.{Extent}

abbrev pub extent_at : ℕ → ℕ → ℕ → Entry Extent
extent_at p at n = record { key = p; value = record { start = at; len = n } }

abbrev pub taken : Result (Unit {0}) TableFault → Result (Unit {0}) BankFault
taken (Ok u) = Ok u
taken (Err f) = Err (Table f)

abbrev pub add_reply : ℕ → ℕ → ℕ → ℕ → ℕ → List (Entry Extent) → Result (Unit {0}) BankFault
add_reply size used n capacity p es = if nat_le (used + n) size then taken (reply capacity p es) else Err NoRoom
