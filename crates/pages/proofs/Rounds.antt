-- Rounding up to a multiple of the size. Assumes nothing.
use Rattle.std.proofs.Common.{◌≡◌, ℕ, ◌+◌, ◌-◌, ◌*◌, ◌/◌, ◌%◌, ◌<◌, inl, inr, ap, ◌∙◌, arith}
use Rattle.std.specs.Int.{next_multiple_of}
use Rattle.std.proofs.Math.Nat.{mod-eq_of_lt, mod_self}
use Rattle.std.proofs.lemmas.Bool.{cases_lt}
use Rattle.std.proofs.lemmas.Nat.{div-add-mod', div-mul-add, mod_below}
use Rattle.pages.specs.Snapshots.{round_up}

pub round_up-whole : (size n : ℕ) → 0 < size → n % size ≡ 0 → round_up size n ≡ n
unfolding round_up
round_up-whole size n h e =
    let d = div-add-mod' n size in
    let s : n + (size - 1) ≡ n / size * size + (size - 1) = omega arith in
    ap (λ m. m / size * size) s ∙ ap (λ q. q * size) (div-mul-add (n / size) size (size - 1) (omega arith)) ∙ omega arith

pub round_up-part : (size n : ℕ) → 0 < size → (n % size ≡ 0 → ⊥) → round_up size n ≡ n + (size - n % size)
unfolding round_up
round_up-part size n h e =
    let d = div-add-mod' n size in
    let b = mod_below n size h in
    let s : n + (size - 1) ≡ (n / size + 1) * size + (n % size - 1) = omega arith in
    ap (λ m. m / size * size) s ∙ ap (λ q. q * size) (div-mul-add (n / size + 1) size (n % size - 1) (omega arith)) ∙ omega arith

-- the library's word for it
pub next_rounds : (size n : ℕ) → 0 < size → next_multiple_of n size ≡ round_up size n
next_rounds size n h =
    elim (cases_lt 0 (n % size)) [
      | inl odd ↦ omega (arith, round_up-part size n h (λ e. omega arith), mod-eq_of_lt {n = size - n % size} {m = size} (omega (arith, mod_below n size h)))
      | inr even ↦ (
          let z : n % size ≡ 0 = omega arith in
          let whole : size - n % size ≡ size = omega arith in
          let m : (size - n % size) % size ≡ 0 = ap (λ k. k % size) whole ∙ mod_self size in
          omega (arith, m, round_up-whole size n h z))
    ]
