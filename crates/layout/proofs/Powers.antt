-- A number with a single bit set is a power of two, so that a segment size divides 2^64. Assumes nothing.
use Rattle.std.proofs.Common.{◌≡◌, ℕ, zero, suc, ◌+◌, ◌-◌, ◌*◌, ◌/◌, ◌%◌, ◌^◌, ◌<◌, ◌≤◌, true, sym, refl, ap, ◌∙◌, subst, ⊎_elim, mul-le-mul_right, div-lt_iff_lt-mul, pow-suc, arith, pow_mono, pow-add}
use native.Mathlib.Nat.{mul-mod_left}
use lib.Count.{ones, ones_in, ones_step}
use Rattle.std.proofs.lemmas.Bool.{cases_lt}
use Rattle.std.proofs.lemmas.Bool.Decides.{nat_tests}
use Rattle.layout.specs.Sizes.{is_segment_size}

ones_none : ones 0 ≡ 0
unfolding ones ones_in
ones_none = refl

-- no bit set
none-set : (k n : ℕ) → n < 2 ^ k → ones n ≡ 0 → n ≡ 0
none-set zero n h e = omega arith
none-set (suc k) n h e =
    let half : n / 2 < 2 ^ k = omega (arith, pow-suc 2 k) in
    omega (arith, ones_step n, none-set k (n / 2) half (omega (arith, ones_step n)))

one_set : (k n : ℕ) → n < 2 ^ k → ones n ≡ 1 → (j : ℕ) × (n ≡ 2 ^ j)
one_set zero n h e = let z : n ≡ 0 = omega arith in absurd (omega (arith, ap ones z, ones_none, e))
one_set (suc k) n h e =
    let half : n / 2 < 2 ^ k = omega (arith, pow-suc 2 k) in
    ⊎_elim
    (λ (odd : 0 < n % 2).
    let rest : ones (n / 2) ≡ 0 = omega (arith, ones_step n) in
    (0, omega (arith, none-set k (n / 2) half rest)))
    (λ (even : n % 2 ≤ 0).
    let r = one_set k (n / 2) half (omega (arith, ones_step n)) in
    (suc r.0, omega (arith, r.1, pow-suc 2 r.0)))
    (cases_lt 0 (n % 2))

pub record Sized (size : ℕ) : Type 0 where
  pub low : 256 ≤ size
  pub high : size ≤ 1048576
  pub power : ones size ≡ 1

pub sized : (size : ℕ) → is_segment_size size ≡ true → Sized size
sized size h = record { low = grind (arith, nat_tests); high = grind (arith, nat_tests); power = grind (arith, nat_tests) }

pub size-power : (size : ℕ) → is_segment_size size ≡ true → (j : ℕ) × (size ≡ 2 ^ j)
size-power size h = let s = sized size h in one_set 21 size (omega (arith, s.high)) s.power

-- it is at most the twentieth
size-power-small : (size j : ℕ) → is_segment_size size ≡ true → size ≡ 2 ^ j → j ≤ 20
size-power-small size j h is =
    ⊎_elim (λ (g : 20 < j). let m : 21 ≤ j = g in absurd (omega (arith, pow_mono m, is, (sized size h).high))) (λ (g : j ≤ 20). g) (cases_lt 20 j)

-- a segment that begins below 2^64 ends there at most
pub size-ends : (size n : ℕ) → is_segment_size size ≡ true → n < 2 ^ 64 → n / size * size + size ≤ 2 ^ 64
size-ends size n h l =
    let s = sized size h in
    let j = (size-power size h).0 in
    let is : size ≡ 2 ^ j = (size-power size h).1 in
    let few : j ≤ 20 = size-power-small size j h is in
    let q = 2 ^ (64 - j) in
    let whole : 64 - j + j ≡ 64 = omega arith in
    let e : q * size ≡ 2 ^ 64 = ap (λ x. q * x) is ∙ sym (pow-add 2 (64 - j) j) ∙ ap (λ x. 2 ^ x) whole in
    let pos : 0 < size = omega (arith, s.low) in
    let less : n / size < q = (div-lt_iff_lt-mul pos).1 (subst (λ x. n < x) (sym e) l) in
    let up : suc (n / size) * size ≤ q * size = mul-le-mul_right size less in
    omega (arith, up, e)

-- a segment size divides 2^62
pub top_multiple : (size : ℕ) → is_segment_size size ≡ true → 2 ^ 62 % size ≡ 0
top_multiple size h =
    let j = (size-power size h).0 in
    let is : size ≡ 2 ^ j = (size-power size h).1 in
    let few : j ≤ 20 = size-power-small size j h is in
    let whole : 62 - j + j ≡ 62 = omega arith in
    let q : 2 ^ 62 ≡ 2 ^ (62 - j) * 2 ^ j = ap (λ n. 2 ^ n) (sym whole) ∙ pow-add 2 (62 - j) j in
    subst (λ n. 2 ^ 62 % n ≡ 0) (sym is) (ap (λ n. n % 2 ^ j) q ∙ mul-mod_left (2 ^ (62 - j)) (2 ^ j))
