-- What division by the generator is: the dividend is a multiple of the generator plus a remainder of lower degree.
-- A polynomial over GF(2) is a number here, the coefficient of x^i in bit i, so a sum is `bit_xor`. Assumes nothing.
use Rattle.std.specs.Prelude.{◌≡◌, ℕ, ◌+◌, ◌*◌, Bool, if◌then◌else◌, List, [], ◌∷◌, length, bit_xor}
use Rattle.checksum.specs.Crc.{bit, remainder}

-- a list of coefficients, the highest power first, after those of a
abbrev pub value_from : ℕ → List Bool → ℕ
value_from a [] = a
value_from a (b ∷ bs) = value_from (a * 2 + bit b) bs

abbrev pub value : List Bool → ℕ
value bs = value_from 0 bs

-- the product of such a list and g: at each coefficient the product so far times x, plus g where it is 1
abbrev pub times_from : ℕ → List Bool → ℕ → ℕ
times_from a [] g = a
times_from a (b ∷ bs) g = times_from (bit_xor (a * 2) (if b then g else 0)) bs g

abbrev pub times : List Bool → ℕ → ℕ
times q g = times_from 0 q g

-- p divided by g leaves r, of 32 coefficients
pub record Leaves (g : ℕ) (p r : List Bool) : Type 0 where
  pub quotient : List Bool
  pub whole : value p ≡ bit_xor (times quotient g) (value r)
  pub short : length r ≡ 32

-- each dividend leaves its remainder
abbrev pub LeavesRemainder : ℕ → Type 0
LeavesRemainder g = (p : List Bool) → Leaves g p (remainder p)

-- and leaves no other
abbrev pub LeavesNoOther : ℕ → Type 0
LeavesNoOther g = (p r : List Bool) → Leaves g p r → r ≡ remainder p
