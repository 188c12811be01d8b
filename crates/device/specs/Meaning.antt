-- What a device means as a whole, and what writes leave of it (docs/RECOVERY.md, "Devices"). Assumes nothing.
--   Meaning          bytes, capacity, block size, loose blocks, spare
--   Alike d e        no question tells them apart
--   wrote d at new   an accepted write
--   zeroed d zs      zeros written, each given by place and number
--   needs d places   how many of the places' blocks are not loose yet, each counted once
use Rattle.std.specs.Prelude.{◌≡◌, ℕ, ◌+◌, ◌/◌, Bool, if◌then◌else◌, List, [], ◌∷◌, length, replicate}
use Rattle.device.specs.Writes.{written, loosened, spent}

pub record Meaning : Type 0 where
  pub bytes : List ℕ
  pub capacity : ℕ
  pub block_size : ℕ
  pub loose : ℕ → Bool
  pub spare : ℕ

pub record Alike (d e : Meaning) : Type 0 where
  pub bytes : d.bytes ≡ e.bytes
  pub capacity : d.capacity ≡ e.capacity
  pub block_size : d.block_size ≡ e.block_size
  pub loose : (b : ℕ) → d.loose b ≡ e.loose b
  pub spare : d.spare ≡ e.spare

unfoldable pub wrote : Meaning → ℕ → List ℕ → Meaning
wrote d at new = record {
  bytes = written d.bytes at new;
  capacity = d.capacity;
  block_size = d.block_size;
  loose = loosened d.block_size d.loose at (length new);
  spare = spent d.block_size d.loose d.spare at (length new);
}

unfoldable pub zeroed : Meaning → List (ℕ × ℕ) → Meaning
zeroed d [] = d
zeroed d (z ∷ zs) = zeroed (wrote d z.0 (replicate z.1 0)) zs

-- by the blocks that are loose before
unfoldable pub needed : ℕ → (ℕ → Bool) → List ℕ → ℕ
needed size loose [] = 0
needed size loose (p ∷ ps) = (if loose (p / size) then 0 else 1) + needed size (loosened size loose p 1) ps

abbrev pub needs : Meaning → List ℕ → ℕ
needs d places = needed d.block_size d.loose places
