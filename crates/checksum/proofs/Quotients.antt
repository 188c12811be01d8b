-- Long division by the generator leaves the remainder, step by step. Assumes nothing.
use Rattle.std.proofs.Common.{◌≡◌, ℕ, suc, ◌+◌, ◌*◌, ◌^◌, ◌<◌, Bool, true, false, cond, List, [], ◌∷◌, ◌++◌, length, replicate, sym, refl, ap, ◌∙◌, subst, ap₂, mul_assoc, mul_comm, add-mul, pow-suc, arith, length-append}
use lib.Bits.{bit_xor, xor_assoc, xor_comm, xor_block, xor_shifted, xor_zero_r}
use Rattle.checksum.specs.Crc.{bit, sum, generator, bring, divide}
use Rattle.checksum.specs.Division.{value_from, value, times_from, LeavesRemainder}
use Rattle.checksum.proofs.Coefficients.{bit-lt, bit-differs, length-bring, length-divide}

-- the generator
abbrev pub G : ℕ
G = 0x1_04C1_1DB7

double : (a c : ℕ) (x y : Bool) → bit_xor (a * 2 + bit x) (c * 2 + bit y) ≡ bit_xor a c * 2 + bit_xor (bit x) (bit y)
double a c x y = xor_block 1 a c (bit x) (bit y) (bit-lt x) (bit-lt y)

value-snoc : (a : ℕ) (xs : List Bool) (b : Bool) → value_from a (xs ++ b ∷ []) ≡ value_from a xs * 2 + bit b
value-snoc a [] b = refl
value-snoc a (x ∷ xs) b = value-snoc (a * 2 + bit x) xs b

value-sum : (a c : ℕ) (xs ys : List Bool) → length xs ≡ length ys → value_from (bit_xor a c) (sum xs ys) ≡ bit_xor (value_from a xs) (value_from c ys)
value-sum a c [] [] h = refl
value-sum a c [] (y ∷ ys) h = absurd (omega arith)
value-sum a c (x ∷ xs) [] h = absurd (omega arith)
value-sum a c (x ∷ xs) (y ∷ ys) h =
    ap (λ n. value_from n (sum xs ys)) (ap (λ n. bit_xor a c * 2 + n) (bit-differs x y) ∙ sym (double a c x y)) ∙ value-sum (a * 2 + bit x) (c * 2 + bit y) xs ys (omega arith)

-- a leading term stands apart
mul_swap : (a n : ℕ) → a * 2 * n ≡ a * n * 2
mul_swap a n = mul_assoc a 2 n ∙ ap (λ k. a * k) (mul_comm 2 n) ∙ sym (mul_assoc a n 2)

value_lead : (a : ℕ) (xs : List Bool) → value_from a xs ≡ a * 2 ^ length xs + value_from 0 xs
value_lead a [] = omega arith
value_lead a (x ∷ xs) =
    let P = 2 ^ length xs in
    let z : 0 * 2 + bit x ≡ bit x = omega arith in
    let p : a * 2 ^ suc (length xs) ≡ a * P * 2 = ap (λ n. a * n) (pow-suc 2 (length xs)) ∙ sym (mul_assoc a P 2) in
    let q : (a * 2 + bit x) * P ≡ a * P * 2 + bit x * P = add-mul (a * 2) (bit x) P ∙ ap (λ n. n + bit x * P) (mul_swap a P) in
    let l : value_from (a * 2 + bit x) xs ≡ (a * 2 + bit x) * P + value_from 0 xs = value_lead (a * 2 + bit x) xs in
    let k : value_from (0 * 2 + bit x) xs ≡ bit x * P + value_from 0 xs = ap (λ n. value_from n xs) z ∙ value_lead (bit x) xs in
    l ∙ omega arith ∙ ap₂ (λ n m. n + m) (sym p) (sym k)

pub value-lt : (xs : List Bool) → value xs < 2 ^ length xs
value-lt [] = omega arith
value-lt (true ∷ xs) = omega (arith, value_lead 1 xs, value-lt xs, pow-suc 2 (length xs))
value-lt (false ∷ xs) = omega (arith, value-lt xs, pow-suc 2 (length xs))

-- one step: the generator is taken off where the leading coefficient is 1
step : (Q a : ℕ) (x b : Bool) (r : List Bool) → length r ≡ 31 → a ≡ bit_xor Q (value (x ∷ r))
    → a * 2 + bit b ≡ bit_xor (bit_xor (Q * 2) (cond x G 0)) (value (bring (x ∷ r) b))
step Q a false b r h e =
    let z : Q * 2 + 0 ≡ Q * 2 = omega arith in
    ap (λ n. n * 2 + bit b) e ∙ sym (double Q (value r) false b) ∙ ap₂ bit_xor (z ∙ sym (xor_zero_r (Q * 2))) (sym (value-snoc 0 r b))
step Q a true b r h e =
    let low32 : ℕ = 0x04C1_1DB7 in
    let R = value r in
    let X = R * 2 + bit b in
    let low : R < 2 ^ 31 = subst (λ n. R < 2 ^ n) h (value-lt r) in
    let lead : value (true ∷ r) ≡ 1 * 2 ^ 31 + R = value_lead 1 r ∙ ap (λ n. 1 * 2 ^ n + R) h in
    let z : Q * 2 + 0 ≡ Q * 2 = omega arith in
    let up : (1 * 2 ^ 31 + R) * 2 + bit b ≡ 1 * 2 ^ 32 + X = omega arith in
    let less : X < 2 ^ 32 = omega (arith, bit-lt b) in
    let brought : value (bring (true ∷ r) b) ≡ bit_xor X low32 =
    value-sum 0 0 (r ++ b ∷ []) generator (length-append r (b ∷ []) ∙ omega arith) ∙ ap (λ n. bit_xor n low32) (value-snoc 0 r b)
    in
    let off : bit_xor G (bit_xor X low32) ≡ bit_xor (1 * 2 ^ 32) X = ap (bit_xor G) (xor_comm X low32) ∙ sym (xor_assoc G low32 X) in
    ap (λ n. n * 2 + bit b) (e ∙ ap (bit_xor Q) lead) ∙ sym (double Q (1 * 2 ^ 31 + R) false b)
    ∙ ap₂ bit_xor z (up ∙ sym (xor_shifted 1 32 X less) ∙ sym off) ∙ sym (xor_assoc (Q * 2) G (bit_xor X low32)) ∙ ap (bit_xor (bit_xor (Q * 2) G)) (sym brought)

long : (Q a : ℕ) (r p : List Bool) → length r ≡ 32 → a ≡ bit_xor Q (value r)
    → (q : List Bool) × (value_from a p ≡ bit_xor (times_from Q q G) (value (divide r p)))
long Q a r [] h e = ([], e)
long Q a [] (b ∷ p) h e = absurd (omega arith)
long Q a (x ∷ r) (b ∷ p) h e =
    let rest = long (bit_xor (Q * 2) (cond x G 0)) (a * 2 + bit b) (bring (x ∷ r) b) p (length-bring (x ∷ r) b h) (step Q a x b r (omega arith) e) in
    (x ∷ rest.0, rest.1)

pub leaves-remainder : LeavesRemainder G
leaves-remainder p =
    let z = replicate 32 false in
    let l = long 0 0 z p refl refl in
    record { quotient = l.0; whole = l.1; short = length-divide z p refl }
