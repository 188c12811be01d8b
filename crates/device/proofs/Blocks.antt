-- What a block size is, and which writes lie in one block.
use Rattle.std.proofs.Common.{◌≡◌, ℕ, ◌+◌, ◌-◌, ◌*◌, ◌/◌, ◌%◌, ◌<◌, ◌≤◌, true, sym, ap, ◌∙◌, mod-lt, arith}
use Rattle.std.proofs.lemmas.Nat.{div-add-mod', div-mul-add}
use Rattle.std.proofs.lemmas.Bool.Decides.{nat_tests}
use Rattle.device.specs.Writes.{fits}

-- a place is that of its block, and its progress in it
pub in_block : (size at : ℕ) → 0 < size → (at ≡ at / size * size + at % size) × (at % size < size)
in_block size at p = (sym (div-add-mod' at size), mod-lt at p)

-- a place that lies in the block b
pub block_of : (size b at : ℕ) → b * size ≤ at → at < b * size + size → at / size ≡ b
block_of size b at low high =
    let e : at ≡ b * size + (at - b * size) = omega arith in
    ap (λ x. x / size) e ∙ div-mul-add b size (at - b * size) (omega arith)

-- n bytes that end with their block or before it lie in one block
pub one_block : (size at n : ℕ) → 0 < size → 0 < n → at % size + n ≤ size → at / size ≡ (at + (n - 1)) / size
one_block size at n p some short =
    let e = in_block size at p in
    sym (block_of size (at / size) (at + (n - 1)) (omega arith) (omega arith))

-- and the other way round
pub block_end : (size at n : ℕ) → 0 < size → at / size ≡ (at + (n - 1)) / size → at % size + n ≤ size
block_end size at n p same =
    let e = in_block size at p in
    let f = in_block size (at + (n - 1)) p in
    let g : at / size * size ≡ (at + (n - 1)) / size * size = ap (λ b. b * size) same in
    omega arith

pub fits_one_block : (capacity size at n : ℕ) → 0 < size → 0 < n → at % size + n ≤ size → at + n ≤ capacity → fits capacity size at n ≡ true
fits_one_block capacity size at n p some short low = let e = one_block size at n p some short in grind (arith, nat_tests)

pub fits_bounds : (capacity size at n : ℕ) → 0 < size → fits capacity size at n ≡ true → (at % size + n ≤ size) × (at + n ≤ capacity)
fits_bounds capacity size at n p e =
    let same : at / size ≡ (at + (n - 1)) / size = grind (arith, nat_tests) in
    (block_end size at n p same, grind (arith, nat_tests))
