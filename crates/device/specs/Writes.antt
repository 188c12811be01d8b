-- Writing to a device (docs/RECOVERY.md, "Devices"): n bytes `new` go to the place `at` of a device that holds `old`, has a
-- capacity and a block size, tells by `loose` which blocks are loose, and has `spare` further ones. Assumes nothing.
--   laid                 `new` put at `at`, with zeros in a gap before it
--   written              the bytes after an accepted write; an empty one changes nothing
--   fits                 first and last byte lie in one block, and none at or above the capacity
--   write_reply          what a write replies
--   loosened             whether the block b is loose after an accepted write
--   spent                how many are spare after it
use Rattle.std.specs.Prelude.{ℕ, ◌+◌, ◌-◌, ◌/◌, Bool, if◌then◌else◌, not, ◌&&◌, ◌||◌, List, ◌++◌, length, take, drop, replicate, Ok, Err, Result, ◌==◌, nat_le, nat_lt}
use Rattle.device.specs.declared.error.DeviceError.{DeviceError}
use Rattle.device.specs.declared.error.DeviceError.TheVariants.{Outside, NoSpare}

unfoldable pub laid : List ℕ → ℕ → List ℕ → List ℕ
laid old at new = take at old ++ (replicate (at - length old) 0 ++ (new ++ drop (at + length new) old))

abbrev pub written : List ℕ → ℕ → List ℕ → List ℕ
written old at new = if length new == 0 then old else laid old at new

abbrev pub fits : ℕ → ℕ → ℕ → ℕ → Bool
fits capacity size at n = at / size == (at + (n - 1)) / size && nat_le (at + n) capacity

abbrev pub write_reply : ℕ → ℕ → (ℕ → Bool) → ℕ → ℕ → ℕ → Result (Unit {0}) DeviceError
write_reply capacity size loose spare at n =
    if n == 0 then Ok tt
    else if not (fits capacity size at n) then Err Outside
    else if not (loose (at / size)) && spare == 0 then Err NoSpare
    else Ok tt

abbrev pub loosened : ℕ → (ℕ → Bool) → ℕ → ℕ → ℕ → Bool
loosened size loose at n b = loose b || (nat_lt 0 n && b == at / size)

abbrev pub spent : ℕ → (ℕ → Bool) → ℕ → ℕ → ℕ → ℕ
spent size loose spare at n = if n == 0 || loose (at / size) then spare else spare - 1
