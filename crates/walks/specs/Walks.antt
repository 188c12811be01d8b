-- The tail of a log and the two walks (docs/RECOVERY.md, "Tail" and "The two walks"). Assumes nothing.
--   since n ss             the segments from the LSN n on
--   Tail                   the segments of the tail, the first absent LSN, and whether there is a gap
--   tail_from size n ss    the tail that starts at n
--   start_of ..            where the tail starts
--   first_walk, last_walk  the two walks; the last is not made where the first met a fault
--   walks ..               both
use Rattle.std.specs.Prelude.{ℕ, ◌+◌, ◌*◌, ◌/◌, Bool, true, false, if◌then◌else◌, List, [], ◌∷◌, Some, None, Option, ◌==◌, nat_lt}
use Rattle.blobs.specs.declared.note.Note.{Note}
use Rattle.scan.specs.Order.{Segment, top_mark}
use Rattle.walks.specs.Walk.{Walked, walk}

unfoldable pub since : ℕ → List Segment → List Segment
since n [] = []
since n (s ∷ ss) = elim (nat_lt s.key n) [ true ↦ since n ss | false ↦ s ∷ ss ]

pub record Tail : Type 0 where
  pub segments : List Segment
  pub absent : ℕ
  pub gap : Bool

unfoldable pub longer : Segment → Tail → Tail
longer s t = record { segments = s ∷ t.segments; absent = t.absent; gap = t.gap }

unfoldable pub tail_from : ℕ → ℕ → List Segment → Tail
tail_from size n [] = record { segments = []; absent = n; gap = false }
tail_from size n (s ∷ ss) =
    elim (s.key == n) [ true ↦ longer s (tail_from size (n + size) ss) | false ↦ record { segments = []; absent = n; gap = true } ]

-- the largest of the minimum and the stable marks, rounded down
unfoldable pub start_of : ℕ → ℕ → ℕ
start_of size top = top / size * size

unfoldable pub tail : ℕ → ℕ → List Segment → Tail
tail size start ss = tail_from size start (since start ss)

-- the first absent LSN itself is not past it
unfoldable pub first_limit : Tail → Option ℕ
first_limit t = if t.gap then Some (t.absent + 1) else None

unfoldable pub last_limit : ℕ → Option ℕ → ℕ
last_limit start None = start
last_limit start (Some current) = current

module _ (notes : ℕ → Option Note) (size : ℕ) (dev : List ℕ) where
  unfoldable pub first_walk : Tail → Walked
  first_walk t = walk notes size dev (first_limit t) false None t.segments

  unfoldable pub last_walk : ℕ → List Segment → Walked → Walked
  last_walk start ss first =
      elim first.fault [
        | Some e ↦ record { records = []; current = first.current; held = first.held; left = first.left; fault = Some e }
        | None ↦ walk notes size dev (Some (last_limit start first.current)) true None ss
      ]

  unfoldable pub walks : ℕ → List Segment → Walked
  walks low ss =
      let start = start_of size (top_mark dev low ss) in
      last_walk start ss (first_walk (tail size start ss))
