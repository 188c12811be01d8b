-- What is known of a place where a message is looked for: it is an entry of its segment and lies in the view, and `w` is what is
-- read ahead there. Assumes nothing.
use Rattle.std.specs.Prelude.{◌≡◌, ℕ, ◌+◌, ◌-◌, ◌*◌, ◌/◌, ◌%◌, ◌^◌, ◌≤◌, List, length, take}
use Rattle.messages.specs.Raw.{ahead}

pub record Entered (size place first : ℕ) (bytes w : List ℕ) : Type 0 where
  pub ends : place / size * size + size ≤ 2 ^ 64
  pub entry : place % size + 32 ≤ size
  pub begun : first ≤ place
  pub ended : place ≤ first + length bytes
  pub window : w ≡ take 128 (ahead bytes (place - first))
  pub wide : length w ≡ 128
