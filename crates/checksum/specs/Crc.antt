-- CRC-32 as ITU-T V.42 defines its 32-bit frame check sequence (FCS), by division of polynomials over GF(2).
-- A polynomial is the list of its coefficients, the highest power first; so the bits of a message, in the order in
-- which they are sent, are a polynomial. An octet is a number below 256. Assumes nothing.
use Rattle.std.specs.Prelude.{ℕ, zero, suc, ◌+◌, ◌*◌, ◌/◌, ◌%◌, Bool, true, false, not, List, [], ◌∷◌, ◌++◌, map, length, replicate, ◌==◌}

-- the sum modulo 2 of two coefficients, and of two polynomials of one length
abbrev pub differs : Bool → Bool → Bool
differs false b = b
differs true b = not b

abbrev pub sum : List Bool → List Bool → List Bool
sum [] ys = ys
sum (x ∷ xs) [] = x ∷ xs
sum (x ∷ xs) (y ∷ ys) = differs x y ∷ sum xs ys

-- the generator x^32 + x^26 + x^23 + x^22 + x^16 + x^12 + x^11 + x^10 + x^8 + x^7 + x^5 + x^4 + x^2 + x + 1, without its first term
abbrev pub generator : List Bool
generator =
    false ∷ false ∷ false ∷ false ∷ false ∷ true ∷ false ∷ false ∷
    true ∷ true ∷ false ∷ false ∷ false ∷ false ∷ false ∷ true ∷
    false ∷ false ∷ false ∷ true ∷ true ∷ true ∷ false ∷ true ∷
    true ∷ false ∷ true ∷ true ∷ false ∷ true ∷ true ∷ true ∷ []

-- one step of long division: to the remainder r, of 32 coefficients, the dividend's next coefficient is brought down
abbrev pub bring : List Bool → Bool → List Bool
bring [] b = []
bring (true ∷ r) b = sum (r ++ b ∷ []) generator
bring (false ∷ r) b = r ++ b ∷ []

abbrev pub divide : List Bool → List Bool → List Bool
divide r [] = r
divide r (b ∷ bs) = divide (bring r b) bs

-- the remainder of p by the generator
abbrev pub remainder : List Bool → List Bool
remainder p = divide (replicate 32 false) p

-- the ones complement of the sum of two remainders: that of x^k times the preset, for the k bits of m, and that of x^32 times m
abbrev pub fcs : List Bool → List Bool → List Bool
fcs preset m = map not (sum (remainder (preset ++ replicate (length m) false)) (remainder (m ++ replicate 32 false)))

-- the k low bits of n, the lowest first
abbrev pub bits : ℕ → ℕ → List Bool
bits zero n = []
bits (suc k) n = (n % 2 == 1) ∷ bits k (n / 2)

-- the bits of a message in the order in which they are sent, each octet's lowest first
abbrev pub sent : List ℕ → List Bool
sent [] = []
sent (b ∷ bs) = bits 8 b ++ sent bs

abbrev pub bit : Bool → ℕ
bit true = 1
bit false = 0

-- the number whose bits are sent in that order, the lowest first
abbrev pub number : List Bool → ℕ
number [] = 0
number (b ∷ bs) = bit b + 2 * number bs

-- the checksum of a message: the preset is x^31 + .. + x + 1
unfoldable pub crc32 : List ℕ → ℕ
crc32 bytes = number (fcs (replicate 32 true) (sent bytes))

-- a checksum carried on over more octets: the preset is its complement
unfoldable pub continued : ℕ → List ℕ → ℕ
continued crc bytes = number (fcs (map not (bits 32 crc)) (sent bytes))
