use Rattle.std.proofs.Common.{◌≡◌, ℕ, ◌+◌, ◌-◌, ◌<◌, ◌≤◌, get_or}
use Rattle.cover.specs.Meaning.{byte_at}
use Rattle.cover.proofs.cover_device.Cover.copy_out.Given as goal

abbrev pub invariant-loop-done : goal.invariant-loop-done
invariant-loop-done l = (l.done ≤ l.end) × ((k : ℕ) → k < l.done → get_or l.dst k 0 ≡ byte_at l.self (l.at + k))

abbrev pub decreases-loop-done : goal.decreases-loop-done
decreases-loop-done l = l.end - l.done
