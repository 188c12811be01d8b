-- The register's turns add up, and only shift low zeros; what it absorbs part by part. Assumes nothing.
use Rattle.std.proofs.Common.{◌≡◌, ℕ, zero, suc, ◌+◌, ◌*◌, ◌/◌, ◌%◌, ◌^◌, ◌<◌, Bool, true, false, eqb, List, [], ◌∷◌, ◌++◌, sym, refl, ap, ◌∙◌, ap₂, mod-lt, mul_assoc, suc-add, pow-suc, zero-add, arith}
use lib.Bits.{bit_xor, xor_assoc, xor_comm, xor_zero_r, xor_shr, xor_mod, xor_lt, xor_shifted}
use Rattle.std.proofs.lemmas.Nat.{shr_split, mod_below, pow_pos}
use Rattle.checksum.specs.Register.{pick, turn, turns, absorb}

pub xor_swap : (a b c d : ℕ) → bit_xor (bit_xor a b) (bit_xor c d) ≡ bit_xor (bit_xor a c) (bit_xor b d)
xor_swap a b c d =
    xor_assoc a b (bit_xor c d) ∙ ap (bit_xor a) (sym (xor_assoc b c d) ∙ ap (λ x. bit_xor x d) (xor_comm b c) ∙ xor_assoc c b d) ∙ sym (xor_assoc a c (bit_xor b d))

pub two_cases : (P : ℕ → Type 0) → P 0 → P 1 → (n : ℕ) → n < 2 → P n
two_cases P p q zero h = p
two_cases P p q (suc zero) h = q
two_cases P p q (suc (suc n)) h = absurd (omega arith)

pick-xor : (a b : ℕ) → a < 2 → b < 2 → pick (eqb (bit_xor a b) 1) ≡ bit_xor (pick (eqb a 1)) (pick (eqb b 1))
pick-xor a b ha hb =
    two_cases (λ a. (b : ℕ) → b < 2 → pick (eqb (bit_xor a b) 1) ≡ bit_xor (pick (eqb a 1)) (pick (eqb b 1)))
    (λ b h. refl)
    (λ b h. two_cases (λ b. pick (eqb (bit_xor 1 b) 1) ≡ bit_xor (pick (eqb 1 1)) (pick (eqb b 1))) refl refl b h) a ha b hb

pub turn-xor : (a b : ℕ) → turn (bit_xor a b) ≡ bit_xor (turn a) (turn b)
unfolding turn
turn-xor a b =
    ap₂ bit_xor (xor_shr a b 1) (ap (λ n. pick (eqb n 1)) (xor_mod a b 1) ∙ pick-xor (a % 2) (b % 2) (mod-lt a (omega arith)) (mod-lt b (omega arith)))
    ∙ xor_swap (a / 2) (b / 2) (pick (eqb (a % 2) 1)) (pick (eqb (b % 2) 1))

pub turns-xor : (k a b : ℕ) → turns k (bit_xor a b) ≡ bit_xor (turns k a) (turns k b)
unfolding turns
turns-xor zero a b = refl
turns-xor (suc k) a b = ap (turns k) (turn-xor a b) ∙ turns-xor k (turn a) (turn b)

pub turns-add : (j k c : ℕ) → turns (j + k) c ≡ turns k (turns j c)
unfolding turns
turns-add zero k c = ap (λ n. turns n c) (zero-add k)
turns-add (suc j) k c = ap (λ n. turns n c) (suc-add j k) ∙ turns-add j k (turn c)

pub turns-turn : (k c : ℕ) → turns k (turn c) ≡ turn (turns k c)
unfolding turns
turns-turn zero c = refl
turns-turn (suc k) c = turns-turn k (turn c)

pub turns-zero : (k : ℕ) → turns k 0 ≡ 0
unfolding turns turn
turns-zero zero = refl
turns-zero (suc k) = turns-zero k

-- an even number only shifts
pub turn_even : (h : ℕ) → turn (h * 2) ≡ h
unfolding turn
turn_even h =
    let e : h * 2 % 2 ≡ 0 = omega arith in
    let d : h * 2 / 2 ≡ h = omega arith in
    ap₂ (λ x y. bit_xor x (pick (eqb y 1))) d e ∙ xor_zero_r h

pub turns_shift : (k h : ℕ) → turns k (h * 2 ^ k) ≡ h
unfolding turns
turns_shift zero h = omega arith
turns_shift (suc k) h =
    ap (λ n. turns k (turn n)) (ap (λ n. h * n) (pow-suc 2 k) ∙ sym (mul_assoc h (2 ^ k) 2)) ∙ ap (turns k) (turn_even (h * 2 ^ k)) ∙ turns_shift k h

-- the low k bits go through the generator, the others shift
pub turns_split : (k c : ℕ) → turns k c ≡ bit_xor (c / 2 ^ k) (turns k (c % 2 ^ k))
turns_split k c =
    ap (turns k) (sym (shr_split c k) ∙ sym (xor_shifted (c / 2 ^ k) k (c % 2 ^ k) (mod_below c (2 ^ k) (pow_pos k))))
    ∙ turns-xor k (c / 2 ^ k * 2 ^ k) (c % 2 ^ k) ∙ ap (λ n. bit_xor n (turns k (c % 2 ^ k))) (turns_shift k (c / 2 ^ k))

pick-lt : (b : Bool) → pick b < 2 ^ 32
pick-lt true = omega arith
pick-lt false = omega arith

turn-lt : (c : ℕ) → c < 2 ^ 32 → turn c < 2 ^ 32
unfolding turn
turn-lt c h = xor_lt 32 (c / 2) (pick (eqb (c % 2) 1)) (omega arith) (pick-lt (eqb (c % 2) 1))

pub turns-lt : (k c : ℕ) → c < 2 ^ 32 → turns k c < 2 ^ 32
unfolding turns
turns-lt zero c h = h
turns-lt (suc k) c h = turns-lt k (turn c) (turn-lt c h)

pub absorb-lt : (c : ℕ) (bs : List ℕ) → c < 2 ^ 32 → absorb c bs < 2 ^ 32
unfolding absorb
absorb-lt c [] h = h
absorb-lt c (b ∷ bs) h = absorb-lt (turns 8 (bit_xor c (b % 256))) bs (turns-lt 8 (bit_xor c (b % 256)) (xor_lt 32 c (b % 256) h (omega arith)))

pub absorb-append : (c : ℕ) (xs ys : List ℕ) → absorb c (xs ++ ys) ≡ absorb (absorb c xs) ys
unfolding absorb
absorb-append c [] ys = refl
absorb-append c (x ∷ xs) ys = absorb-append (turns 8 (bit_xor c (x % 256))) xs ys
