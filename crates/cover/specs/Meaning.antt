-- What a cover stands for (docs/RECOVERY.md, "Cover"). Assumes nothing.
--   entries              the entries of its table that have a whole block of the cover buffer
--   byte_at              the byte at the place k
--   contents             its bytes
--   covers               whether the block b is covered
use Rattle.std.specs.Prelude.{ℕ, Bool, List, is_some, Some, vec_items, Option}
use Rattle.cover.specs.Entries.{entry_of}
use Rattle.cover.specs.Shown.{seen, shown}
use Rattle.cover.specs.declared.cover_device.Cover.{Cover}

abbrev pub entries : Cover → List (Option ℕ)
entries c = c.table

abbrev pub byte_at : Cover → ℕ → ℕ
byte_at c k = seen c.geometry.block_size (entries c) (vec_items c.buf) c.medium.now k

abbrev pub contents : Cover → List ℕ
contents c = shown c.len c.geometry.block_size (entries c) (vec_items c.buf) c.medium.now

abbrev pub covers : Cover → ℕ → Bool
covers c b = is_some (entry_of (entries c) (Some b))
