-- What the tables of the register hold. Assumes nothing.
use Rattle.std.specs.Prelude.{ℕ, ◌+◌, ◌*◌, List, map}
use Rattle.std.specs.List.{range_with_len}
use Rattle.checksum.specs.Register.{turns}

-- eight tables of 256 entries: table k has at i what 8 (k + 1) turns make of i
unfoldable pub turned : List (List ℕ)
turned = map (λ k. map (turns (8 * (k + 1))) (range_with_len 0 256)) (range_with_len 0 8)
