-- Reading bytes (docs/RECOVERY.md, "Reading bytes"): `bytes` stand one after the other from the place `first` on,
-- and a read wants n of them from the place `at` on. Assumes nothing.
--   inside               each wanted byte is there; of an empty read that is always so
--   begins               the read begins neither before the first place nor above the end
--   available            how many of the wanted bytes there are
--   part                 those bytes
--   filled               a buffer `dst` for them after such a read: the bytes that there are, and its own behind them
--   exact_reply          what a read of all of them replies
--   eof_reply            what a read of as many as there are replies
use Rattle.std.specs.Prelude.{ℕ, ◌+◌, ◌-◌, min, Bool, if◌then◌else◌, ◌&&◌, ◌||◌, List, ◌++◌, length, take, drop, Ok, Err, Result, ◌==◌, nat_le}
use Rattle.device.specs.declared.error.DeviceError.{DeviceError}
use Rattle.device.specs.declared.error.DeviceError.TheVariants.{Outside}

abbrev pub inside : ℕ → List ℕ → ℕ → ℕ → Bool
inside first bytes at n = n == 0 || (nat_le first at && nat_le (at + n) (first + length bytes))

abbrev pub begins : ℕ → List ℕ → ℕ → Bool
begins first bytes at = nat_le first at && nat_le at (first + length bytes)

abbrev pub available : ℕ → List ℕ → ℕ → ℕ → ℕ
available first bytes at n = min n (first + length bytes - at)

abbrev pub part : ℕ → List ℕ → ℕ → ℕ → List ℕ
part first bytes at n = take n (drop (at - first) bytes)

abbrev pub filled : ℕ → List ℕ → ℕ → List ℕ → List ℕ
filled first bytes at dst =
    part first bytes at (available first bytes at (length dst)) ++ drop (available first bytes at (length dst)) dst

abbrev pub exact_reply : ℕ → List ℕ → ℕ → ℕ → Result (Unit {0}) DeviceError
exact_reply first bytes at n = if inside first bytes at n then Ok tt else Err Outside

abbrev pub eof_reply : ℕ → List ℕ → ℕ → ℕ → Result ℕ DeviceError
eof_reply first bytes at n = if begins first bytes at then Ok (available first bytes at n) else Err Outside
