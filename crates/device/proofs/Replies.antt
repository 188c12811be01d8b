-- Which reply a write gets, by what a caller knows of the device, and what the reply of a read says. Assumes nothing.
use Rattle.std.proofs.Common.{◌≡◌, ℕ, ◌/◌, ◌<◌, Bool, true, false, ◌||◌, ltb, List, Ok, Err, arith}
use Rattle.std.proofs.lemmas.Bool.Decides.{nat_tests}
use Rattle.device.specs.Reads.{inside, begins, available, exact_reply, eof_reply}
use Rattle.device.specs.Writes.{fits, write_reply}
use Rattle.device.specs.declared.error.DeviceError.{DeviceError}
use Rattle.device.specs.declared.error.DeviceError.TheVariants.{NoSpare}

pub accepted : (capacity size : ℕ) (loose : ℕ → Bool) (spare at n : ℕ) → fits capacity size at n ≡ true → (loose (at / size) || ltb 0 spare) ≡ true
    → Ok tt ≡ write_reply capacity size loose spare at n
accepted capacity size loose spare at n fit free = grind (arith, nat_tests)

pub no_spare : (capacity size : ℕ) (loose : ℕ → Bool) (spare at n : ℕ) → 0 < n → fits capacity size at n ≡ true → loose (at / size) ≡ false → spare ≡ 0
    → Err NoSpare ≡ write_reply capacity size loose spare at n
no_spare capacity size loose spare at n some fit shut none = grind (arith, nat_tests)

-- ---- reads
pub exact_ok : (first from n : ℕ) (bytes : List ℕ) (u : Unit {0}) → Ok u ≡ exact_reply first bytes from n → inside first bytes from n ≡ true
exact_ok first from n bytes u e = grind arith

pub exact_err : (first from n : ℕ) (bytes : List ℕ) (x : DeviceError) → Err x ≡ exact_reply first bytes from n → inside first bytes from n ≡ false
exact_err first from n bytes x e = grind arith

pub eof_ok : (first place k n : ℕ) (bytes : List ℕ) → Ok n ≡ eof_reply first bytes place k → (begins first bytes place ≡ true) × (n ≡ available first bytes place k)
eof_ok first place k n bytes e = grind arith

pub eof_err : (first place k : ℕ) (bytes : List ℕ) (x : DeviceError) → Err x ≡ eof_reply first bytes place k → begins first bytes place ≡ false
eof_err first place k bytes x e = grind arith
