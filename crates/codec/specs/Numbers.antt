-- Numbers as bytes: fields of a fixed width, the lowest byte first, and numbers of variable length
-- (docs/FORMAT.md, "Numbers"). Bytes are a list of numbers below 256. Assumes nothing.
--   little bs      the number that bytes write, the lowest first
--   octets k n     the k low bytes of n
--   number bs      the number at the front of bs by its first byte's form, and the bytes past it
--   shortest n     the form of n that is written
use Rattle.std.specs.Prelude.{◌≡◌, ℕ, zero, suc, ◌+◌, ◌-◌, ◌*◌, ◌/◌, ◌%◌, ◌^◌, ◌<◌, if◌then◌else◌, List, [], ◌∷◌, length, take, drop, Some, None, Option, ◌==◌, nat_le, nat_lt, slice_index}

-- each element is a byte
abbrev pub Bytes : List ℕ → Type 0
Bytes bs = (i : ℕ) → slice_index bs i < 256

unfoldable pub little : List ℕ → ℕ
little [] = 0
little (b ∷ bs) = b + 256 * little bs

unfoldable pub octets : ℕ → ℕ → List ℕ
octets zero n = []
octets (suc k) n = (n % 256) ∷ octets k (n / 256)

-- a field of k bytes at the front, and the bytes past it; none where there are fewer
unfoldable pub field : ℕ → List ℕ → Option (ℕ × List ℕ)
field k bs = if nat_le k (length bs) then Some (little (take k bs), drop k bs) else None

-- the next byte, added to a base
unfoldable pub second : ℕ → List ℕ → Option (ℕ × List ℕ)
second base [] = None
second base (b ∷ bs) = Some (base + b, bs)

-- the next byte times 256 and the one after, added to 2,288
abbrev pub third : List ℕ → Option (ℕ × List ℕ)
third [] = None
third (a ∷ []) = None
third (a ∷ b ∷ bs) = Some (2288 + 256 * a + b, bs)

-- up to 240 the value itself; 241 to 248 two bytes in all; 249 three; above, f - 247 bytes follow, the lowest first
abbrev pub formed : ℕ → List ℕ → Option (ℕ × List ℕ)
formed f bs =
    if nat_le f 240 then Some (f, bs)
    else if nat_le f 248 then second (240 + 256 * (f - 241)) bs
    else if f == 249 then third bs
    else field (f - 247) bs

unfoldable pub number : List ℕ → Option (ℕ × List ℕ)
number [] = None
number (f ∷ bs) = formed f bs

-- how many bytes follow the first where a number is above 67,823: three at least
abbrev pub width : ℕ → ℕ
width n =
    if nat_lt n (2 ^ 24) then 3
    else if nat_lt n (2 ^ 32) then 4
    else if nat_lt n (2 ^ 40) then 5
    else if nat_lt n (2 ^ 48) then 6
    else if nat_lt n (2 ^ 56) then 7
    else 8

unfoldable pub shortest : ℕ → List ℕ
shortest n =
    if nat_le n 240 then n ∷ []
    else if nat_le n 2287 then (241 + (n - 240) / 256) ∷ ((n - 240) % 256) ∷ []
    else if nat_le n 67823 then 249 ∷ ((n - 2288) / 256) ∷ ((n - 2288) % 256) ∷ []
    else (247 + width n) ∷ octets (width n) n

-- 241, 2,287, 67,823 and 67,824 as they are written; F1 00 is a longer form of 240
abbrev pub Examples : Type 0
Examples =
    (shortest 241 ≡ 0xF1 ∷ 0x01 ∷ [])
    × (shortest 2287 ≡ 0xF8 ∷ 0xFF ∷ [])
    × (shortest 67823 ≡ 0xF9 ∷ 0xFF ∷ 0xFF ∷ [])
    × (shortest 67824 ≡ 0xFA ∷ 0xF0 ∷ 0x08 ∷ 0x01 ∷ [])
    × (number (0xF1 ∷ 0x00 ∷ []) ≡ Some (240, []))
