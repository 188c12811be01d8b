-- The block table (docs/RECOVERY.md, "Cover"): an entry is unmarked, or it names the block that it covers. Assumes nothing.
--   entry_of             the first entry equal to the one that is wanted
--   unmarked             how many entries are unmarked
use Rattle.std.specs.Prelude.{ℕ, not, is_some, List, Option, nat_eq}
use Rattle.std.specs.List.{position, count_by}
use Rattle.std.specs.Option.{option_eq}

abbrev pub entry_of : List (Option ℕ) → Option ℕ → Option ℕ
entry_of entries wanted = position (λ e. option_eq nat_eq e wanted) entries

abbrev pub unmarked : List (Option ℕ) → ℕ
unmarked entries = count_by (λ e. not (is_some e)) entries
