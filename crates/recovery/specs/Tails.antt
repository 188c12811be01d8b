-- A tail in memory: its segments, and where the first walk over them ends. Assumes nothing.
use Rattle.std.specs.Prelude.{◌≡◌}
use Rattle.walks.specs.Walks.{Tail, first_limit}
use Rattle.recovery.specs.declared.tail.Tail.{Tail as Found}

pub record TailIs (found : Found) (t : Tail) : Type 0 where
  pub segments : found.segments.now ≡ t.segments
  pub limit : found.limit ≡ first_limit t
