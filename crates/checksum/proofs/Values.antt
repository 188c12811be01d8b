-- What callers cite of the checksum: its size, how it joins, and its value at nothing and at zeros. Assumes nothing.
use Rattle.std.proofs.Common.{◌≡◌, ℕ, ◌-◌, ◌^◌, ◌<◌, List, [], ◌++◌, replicate, sym, refl, ap, ◌∙◌, arith}
use Rattle.checksum.specs.Crc.{crc32, continued}
use Rattle.checksum.specs.Register.{absorb}
use Rattle.checksum.proofs.Turns.{absorb-lt, absorb-append}
use Rattle.checksum.proofs.Registers.{crc32_register, continued_register}

pub crc32-lt : (bs : List ℕ) → crc32 bs < 2 ^ 32
crc32-lt bs = omega (arith, crc32_register bs)

-- a checksum carried on is that of the two messages joined
pub crc32-append : (xs ys : List ℕ) → crc32 (xs ++ ys) ≡ continued (crc32 xs) ys
crc32-append xs ys =
    let lt = absorb-lt 0xFFFF_FFFF xs (omega arith) in
    let back : 0xFFFF_FFFF - crc32 xs ≡ absorb 0xFFFF_FFFF xs = omega (arith, crc32_register xs) in
    crc32_register (xs ++ ys) ∙ ap (λ n. 0xFFFF_FFFF - n) (absorb-append 0xFFFF_FFFF xs ys ∙ ap (λ n. absorb n ys) (sym back))
    ∙ sym (continued_register (crc32 xs) ys (crc32-lt xs))

pub crc32_none : crc32 [] ≡ 0
unfolding crc32
crc32_none = refl

pub crc32_zeros16 : crc32 (replicate 16 0) ≡ 0xECBB_4B55
unfolding crc32
crc32_zeros16 = refl
