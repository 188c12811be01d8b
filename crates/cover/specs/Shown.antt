-- What a cover shows (docs/RECOVERY.md, "Cover"): its table has `entries`, of which entry i owns block i of the cover buffer
-- `cover`, and what no entry names is read from `medium`. Assumes nothing.
--   block_bytes          the bytes of a block, without the zeros past the medium's end
--   seen                 the byte at the place k
--   shown                the bytes of a device of `len` bytes
use Rattle.std.specs.Prelude.{ℕ, ◌*◌, ◌/◌, ◌%◌, List, map, take, drop, Some, None, Option, slice_index}
use Rattle.std.specs.List.{range_with_len}
use Rattle.cover.specs.Entries.{entry_of}

abbrev pub block_bytes : ℕ → List (Option ℕ) → List ℕ → List ℕ → ℕ → List ℕ
block_bytes size entries cover medium b = elim (entry_of entries (Some b)) [
  | Some i ↦ take size (drop (i * size) cover)
  | None ↦ take size (drop (b * size) medium)
]

unfoldable pub seen : ℕ → List (Option ℕ) → List ℕ → List ℕ → ℕ → ℕ
seen size entries cover medium k = slice_index (block_bytes size entries cover medium (k / size)) (k % size)

unfoldable pub shown : ℕ → ℕ → List (Option ℕ) → List ℕ → List ℕ → List ℕ
shown len size entries cover medium = map (seen size entries cover medium) (range_with_len 0 len)
