-- A scan with room for every segment. Assumes nothing.
use Rattle.std.proofs.Common.{◌≡◌, ℕ, ◌≤◌, true, List, length, arith}
use Rattle.std.proofs.lemmas.Bool.Decides.{nat_tests}
use Rattle.layout.specs.Sizes.{is_segment_size, counted}
use Rattle.scan.specs.Order.{gathered, scanned}

pub scanned_whole : (room size : ℕ) (dev : List ℕ) (low : ℕ) → is_segment_size size ≡ true → counted (length dev) size ≤ room → scanned room size dev low ≡ gathered size dev low
unfolding scanned
scanned_whole room size dev low z h = grind (arith, nat_tests)
