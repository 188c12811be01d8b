-- Eight-byte fields (docs/FORMAT.md, "Fixed fields and signs"). Assumes nothing.
--   below n      the highest of 64 bits is set: the field is below zero
--   eight n      n as a field, the lowest byte first
use Rattle.std.specs.Prelude.{ℕ, ◌^◌, Bool, List, Some, Option, nat_le}
use Rattle.codec.specs.Numbers.{octets, field}
use Rattle.codec.specs.Serial.{next}
use Rattle.codec.specs.declared.word.Word.{Word}

abbrev pub below : ℕ → Bool
below n = nat_le (2 ^ 63) n

abbrev pub eight : ℕ → List ℕ
eight n = octets 8 n

abbrev pub read_word : List ℕ → Option (Word × List ℕ)
read_word bs = next (field 8 bs) λ n rest. Some (record { bits = n }, rest)
