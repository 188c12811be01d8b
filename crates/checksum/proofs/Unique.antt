-- A dividend leaves one remainder: the sum of two is a multiple of the generator, and of a degree so low only zero is one. Assumes nothing.
use Rattle.std.proofs.Common.{◌≡◌, ℕ, zero, suc, ◌+◌, ◌*◌, ◌/◌, ◌^◌, ◌<◌, ◌≤◌, Bool, true, false, cond, ◌⊎◌, List, [], ◌∷◌, ◌++◌, length, replicate, sym, refl, ap, ◌∙◌, subst, ap₂, inl, inr, ⊎_elim, arith, length-append}
use lib.ListN.{length-replicate}
use lib.Bits.{bit_xor, xor_assoc, xor_self, xor_zero_r, xor_block, xor_shr, xor_lt}
use Rattle.checksum.specs.Crc.{bit, differs, sum, remainder}
use Rattle.checksum.specs.Division.{value_from, value, times_from, times, Leaves, LeavesNoOther}
use Rattle.checksum.proofs.Coefficients.{bit-lt}
use Rattle.checksum.proofs.Turns.{xor_swap}
use Rattle.checksum.proofs.Quotients.{G, value-lt, leaves-remainder}

-- ---- products add up, and leading zeros do not count
cond-differs : (x y : Bool) (g : ℕ) → cond (differs x y) g 0 ≡ bit_xor (cond x g 0) (cond y g 0)
cond-differs true true g = sym (xor_self g)
cond-differs true false g = sym (xor_zero_r g)
cond-differs false y g = refl

xor-double : (a c : ℕ) → bit_xor a c * 2 ≡ bit_xor (a * 2) (c * 2)
xor-double a c =
    let z : (n : ℕ) → n * 2 + 0 ≡ n * 2 = λ n. omega arith in
    sym (z (bit_xor a c)) ∙ sym (xor_block 1 a c 0 0 (omega arith) (omega arith)) ∙ ap₂ bit_xor (z a) (z c)

times-sum : (a c g : ℕ) (p q : List Bool) → length p ≡ length q → times_from (bit_xor a c) (sum p q) g ≡ bit_xor (times_from a p g) (times_from c q g)
times-sum a c g [] [] h = refl
times-sum a c g [] (y ∷ q) h = absurd (omega arith)
times-sum a c g (x ∷ p) [] h = absurd (omega arith)
times-sum a c g (x ∷ p) (y ∷ q) h =
    ap (λ n. times_from n (sum p q) g) (ap₂ bit_xor (xor-double a c) (cond-differs x y g) ∙ xor_swap (a * 2) (c * 2) (cond x g 0) (cond y g 0))
    ∙ times-sum (bit_xor (a * 2) (cond x g 0)) (bit_xor (c * 2) (cond y g 0)) g p q (omega arith)

times-zeros : (k g : ℕ) (q : List Bool) → times (replicate k false ++ q) g ≡ times q g
times-zeros zero g q = refl
times-zeros (suc k) g q = times-zeros k g q

-- ---- a multiple of the generator is zero, or of degree 32 and more
generator-lt : (b : Bool) → cond b G 0 < 2 ^ 33
generator-lt true = omega arith
generator-lt false = omega arith

times_high : (a : ℕ) (q : List Bool) → 2 ^ 32 ≤ a → 2 ^ 32 ≤ times_from a q G
times_high a [] h = h
times_high a (b ∷ q) h =
    let g = cond b G 0 in
    let none : g / 2 ^ 33 ≡ 0 = omega (arith, generator-lt b) in
    let top : bit_xor (a * 2) g / 2 ^ 33 ≡ a * 2 / 2 ^ 33 = xor_shr (a * 2) g 33 ∙ ap (bit_xor (a * 2 / 2 ^ 33)) none ∙ xor_zero_r (a * 2 / 2 ^ 33) in
    times_high (bit_xor (a * 2) g) q (omega arith)

times_degree : (q : List Bool) → (times q G ≡ 0) ⊎ (2 ^ 32 ≤ times q G)
times_degree [] = inl refl
times_degree (false ∷ q) = times_degree q
times_degree (true ∷ q) = inr (times_high G q (omega arith))

-- ---- lists of one length with one value are equal
bit_same : (x y : Bool) → bit x ≡ bit y → x ≡ y
bit_same true true h = refl
bit_same true false h = absurd (omega arith)
bit_same false true h = absurd (omega arith)
bit_same false false h = refl

value_same : (a c : ℕ) (xs ys : List Bool) → length xs ≡ length ys → value_from a xs ≡ value_from c ys → (a ≡ c) × (xs ≡ ys)
value_same a c [] [] h e = (e, refl)
value_same a c [] (y ∷ ys) h e = absurd (omega arith)
value_same a c (x ∷ xs) [] h e = absurd (omega arith)
value_same a c (x ∷ xs) (y ∷ ys) h e =
    let rest = value_same (a * 2 + bit x) (c * 2 + bit y) xs ys (omega arith) e in
    let low : bit x ≡ bit y = omega (arith, rest.0, bit-lt x, bit-lt y) in
    (omega (arith, rest.0, bit-lt x, bit-lt y), ap₂ (λ z zs. z ∷ zs) (bit_same x y low) rest.1)

-- ---- the remainders
xor_same : (a b : ℕ) → bit_xor a b ≡ 0 → a ≡ b
xor_same a b h = sym (xor_zero_r a) ∙ ap (bit_xor a) (sym (xor_self b)) ∙ sym (xor_assoc a b b) ∙ ap (λ n. bit_xor n b) h

-- the sum of two remainders is a multiple of the generator
multiple : (p r s : List Bool) (a : Leaves G p r) (b : Leaves G p s) → (q : List Bool) × (times q G ≡ bit_xor (value r) (value s))
multiple p r s a b =
    let m = a.quotient in
    let n = b.quotient in
    let m+ = replicate (length n) false ++ m in
    let n+ = replicate (length m) false ++ n in
    let long : length m+ ≡ length n+ =
    length-append (replicate (length n) false) m ∙ omega (arith, length-append (replicate (length m) false) n, length-replicate (length n) false, length-replicate (length m) false)
    in
    let both : bit_xor (bit_xor (times m G) (times n G)) (bit_xor (value r) (value s)) ≡ 0 =
    xor_swap (times m G) (times n G) (value r) (value s) ∙ ap₂ bit_xor (sym a.whole) (sym b.whole) ∙ xor_self (value p)
    in (
      sum m+ n+,
      times-sum 0 0 G m+ n+ long ∙ ap₂ bit_xor (times-zeros (length n) G m) (times-zeros (length m) G n)
          ∙ xor_same (bit_xor (times m G) (times n G)) (bit_xor (value r) (value s)) both,
    )

same : (p r s : List Bool) → Leaves G p r → Leaves G p s → r ≡ s
same p r s a b =
    let d = multiple p r s a b in
    let low : (l : List Bool) → length l ≡ 32 → value l < 2 ^ 32 = λ l h. subst (λ n. value l < 2 ^ n) h (value-lt l) in
    let lt : bit_xor (value r) (value s) < 2 ^ 32 = xor_lt 32 (value r) (value s) (low r a.short) (low s b.short) in
    let none : bit_xor (value r) (value s) ≡ 0 = ⊎_elim (λ z. sym d.1 ∙ z) (λ h. absurd (omega (arith, d.1))) (times_degree d.0) in
    (value_same 0 0 r s (a.short ∙ sym b.short) (xor_same (value r) (value s) none)).1

pub leaves_no_other : LeavesNoOther G
leaves_no_other p r a = same p r (remainder p) a (leaves-remainder p)
