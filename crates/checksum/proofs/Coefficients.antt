-- Lists of coefficients as numbers, the first one lowest, and their lengths. Assumes nothing.
use Rattle.std.proofs.Common.{◌≡◌, ℕ, zero, suc, ◌+◌, ◌-◌, ◌*◌, ◌/◌, ◌%◌, ◌^◌, ◌<◌, Bool, true, false, not, eqb, List, [], ◌∷◌, ◌++◌, map, length, sym, refl, ap, ◌∙◌, ap₂, mod-lt, mod-eq_of_lt, mul_assoc, pow-suc, add-one, arith, length-append}
use lib.Bits.{bit_xor, xor_zero_r, xor_block}
use Rattle.std.proofs.lemmas.Nat.{mod-pow-add}
use Rattle.checksum.specs.Crc.{differs, sum, generator, bring, divide, bits, bit, number}
use Rattle.checksum.proofs.Turns.{two_cases}

pub bit-lt : (b : Bool) → bit b < 2
bit-lt true = omega arith
bit-lt false = omega arith

pub bit-differs : (x y : Bool) → bit (differs x y) ≡ bit_xor (bit x) (bit y)
bit-differs true true = refl
bit-differs true false = refl
bit-differs false y = refl

pub bit-odd : (n : ℕ) → n < 2 → bit (eqb n 1) ≡ n
bit-odd = two_cases (λ n. bit (eqb n 1) ≡ n) refl refl

pub number_lt : (xs : List Bool) → number xs < 2 ^ length xs
number_lt [] = omega arith
number_lt (x ∷ xs) = omega (arith, number_lt xs, bit-lt x, pow-suc 2 (length xs))

pub number-snoc : (xs : List Bool) (b : Bool) → number (xs ++ b ∷ []) ≡ number xs + bit b * 2 ^ length xs
number-snoc [] b = omega arith
number-snoc (x ∷ xs) b =
    let p = ap (λ n. bit b * n) (pow-suc 2 (length xs)) ∙ sym (mul_assoc (bit b) (2 ^ length xs) 2) in omega (arith, number-snoc xs b, p)

pub number-sum : (xs ys : List Bool) → number (sum xs ys) ≡ bit_xor (number xs) (number ys)
number-sum [] ys = refl
number-sum (x ∷ xs) [] = sym (xor_zero_r (number (x ∷ xs)))
number-sum (x ∷ xs) (y ∷ ys) =
    let front : (b : Bool) (n : ℕ) → bit b + 2 * n ≡ n * 2 ^ 1 + bit b = λ b n. omega arith in
    front (differs x y) (number (sum xs ys))
    ∙ ap₂ (λ n m. n * 2 ^ 1 + m) (number-sum xs ys) (bit-differs x y)
    ∙ sym (xor_block 1 (number xs) (number ys) (bit x) (bit y) (bit-lt x) (bit-lt y))
    ∙ ap₂ bit_xor (sym (front x (number xs))) (sym (front y (number ys)))

pub number-not : (xs : List Bool) → number (map not xs) + number xs + 1 ≡ 2 ^ length xs
number-not [] = refl
number-not (true ∷ xs) = omega (arith, number-not xs, pow-suc 2 (length xs))
number-not (false ∷ xs) = omega (arith, number-not xs, pow-suc 2 (length xs))

number-bits : (k n : ℕ) → number (bits k n) ≡ n % 2 ^ k
number-bits zero n = let e : n % 1 ≡ 0 = omega arith in sym e
number-bits (suc k) n =
    let low : n % 2 < 2 = mod-lt n (omega arith) in
    let whole : n % 2 ^ suc k ≡ n / 2 % 2 ^ k * 2 + n % 2 = ap (λ m. n % 2 ^ m) (sym (add-one k)) ∙ mod-pow-add n k 1 in
    omega (arith, number-bits k (n / 2), bit-odd (n % 2) low, whole)

pub length-bits : (k n : ℕ) → length (bits k n) ≡ k
length-bits zero n = refl
length-bits (suc k) n = ap suc (length-bits k (n / 2))

pub number-complement : (k n : ℕ) → n < 2 ^ k → number (map not (bits k n)) ≡ 2 ^ k - 1 - n
number-complement k n h =
    let e : number (map not (bits k n)) + number (bits k n) + 1 ≡ 2 ^ k = number-not (bits k n) ∙ ap (λ l. 2 ^ l) (length-bits k n) in
    let f : number (bits k n) ≡ n = number-bits k n ∙ mod-eq_of_lt h in
    omega arith

pub length-sum : (xs ys : List Bool) → length xs ≡ length ys → length (sum xs ys) ≡ length xs
length-sum [] [] h = refl
length-sum [] (y ∷ ys) h = absurd (omega arith)
length-sum (x ∷ xs) [] h = refl
length-sum (x ∷ xs) (y ∷ ys) h = ap suc (length-sum xs ys (omega arith))

pub length-bring : (r : List Bool) (b : Bool) → length r ≡ 32 → length (bring r b) ≡ 32
length-bring [] b h = h
length-bring (true ∷ r) b h = let e = length-append r (b ∷ []) in length-sum (r ++ b ∷ []) generator (omega arith) ∙ omega arith
length-bring (false ∷ r) b h = let e = length-append r (b ∷ []) in omega arith

pub length-divide : (r p : List Bool) → length r ≡ 32 → length (divide r p) ≡ 32
length-divide r [] h = h
length-divide r (b ∷ p) h = length-divide (bring r b) p (length-bring r b h)
