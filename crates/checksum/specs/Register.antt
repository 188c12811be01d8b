-- The division in a register, as the inner functions compute it: 32 bits, of which the lowest is the coefficient of x^31. Assumes nothing.
use Rattle.std.specs.Prelude.{ℕ, zero, suc, ◌/◌, ◌%◌, Bool, true, false, List, [], ◌∷◌, ◌==◌, bit_xor}

-- the generator without its first term, in that order
abbrev pub poly : ℕ
poly = 0xEDB8_8320

abbrev pub pick : Bool → ℕ
pick true = poly
pick false = 0

-- x times what the register holds, less the generator where x^32 comes up
unfoldable pub turn : ℕ → ℕ
turn c = bit_xor (c / 2) (pick (c % 2 == 1))

unfoldable pub turns : ℕ → ℕ → ℕ
turns zero c = c
turns (suc k) c = turns k (turn c)

-- octets into the register c, each added to its eight highest coefficients
unfoldable pub absorb : ℕ → List ℕ → ℕ
absorb c [] = c
absorb c (b ∷ bs) = absorb (turns 8 (bit_xor c (b % 256))) bs
