-- A number that is written is read back. Assumes nothing.
use Rattle.std.specs.Prelude.{◌≡◌, ℕ, suc, ◌+◌, ◌-◌, ◌*◌, ◌^◌, ◌<◌, ◌≤◌, ◌⊎◌, List, [], ◌∷◌, length, take, Some, Option, ◌==◌, nat_le, nat_lt, refl}
use Rattle.std.proofs.Common.{inl, inr, ⊎_elim, sym, ap, ◌∙◌, subst, arith, length-drop, pow_mono}
use Rattle.std.specs.Int.{to_le_bytes, w64}
use Rattle.std.proofs.lemmas.List.Edits.{sets}
use Rattle.std.proofs.lemmas.List.{length-take-le}
use Rattle.std.proofs.lemmas.Bool.{cond-true, cond-false, cond_both, cases_lt, le-leb, lt-leb, leb-true, leb-false, ltb-true, ltb-false, eqb-false}
use Rattle.codec.specs.Laws.{length-octets}
use Rattle.codec.specs.Numbers.{Bytes, octets, field, second, third, number, width, shortest, Examples}
use Rattle.codec.proofs.Octets.{little-lt, take-le_octets, bytes_part, field_read, some_is}
use Rattle.codec.proofs.Writes.{sets_then}

-- the width holds the number, and lies from 3 to 8
pub record Wide (n w : ℕ) : Type 0 where
  pub low : 3 ≤ w
  pub high : w ≤ 8
  pub holds : n < 2 ^ (8 * w)

pub width-wide : (n : ℕ) → n < 2 ^ 64 → Wide n (width n)
width-wide n h =
    cond_both _ _ _ (Wide n) (λ e. record { low = omega arith; high = omega arith; holds = ltb-true n (2 ^ 24) e }) λ _.
    cond_both _ _ _ (Wide n) (λ e. record { low = omega arith; high = omega arith; holds = ltb-true n (2 ^ 32) e }) λ _.
    cond_both _ _ _ (Wide n) (λ e. record { low = omega arith; high = omega arith; holds = ltb-true n (2 ^ 40) e }) λ _.
    cond_both _ _ _ (Wide n) (λ e. record { low = omega arith; high = omega arith; holds = ltb-true n (2 ^ 48) e }) λ _.
    cond_both _ _ _ (Wide n) (λ e. record { low = omega arith; high = omega arith; holds = ltb-true n (2 ^ 56) e }) λ _.
    record { low = omega arith; high = omega arith; holds = h }

-- the long form
pub shortest_long : (n : ℕ) → 67823 < n → shortest n ≡ (247 + width n) ∷ octets (width n) n
unfolding shortest
shortest_long n h =
    cond-false _ _ _ (lt-leb n 240 (omega arith)) ∙ cond-false _ _ _ (lt-leb n 2287 (omega arith)) ∙ cond-false _ _ _ (lt-leb n 67823 h)

pub length_long : (n w : ℕ) → 67823 < n → w ≡ width n → 1 + w ≡ length (shortest n)
length_long n w h e = omega (arith, e, ap length (shortest_long n h), length-octets (width n) n)

pub put_long : (l m1 m2 bs : List ℕ) (at a n w : ℕ) → 67823 < n → w ≡ width n → w ≤ 8 → bs ≡ to_le_bytes w64 n
    → m1 ≡ sets l at ((247 + w) ∷ []) → a ≡ at + 1 → m2 ≡ sets m1 a (take w bs) → m2 ≡ sets l at (shortest n)
put_long l m1 m2 bs at a n w h e f t p q r =
    sets_then l m1 m2 at a ((247 + w) ∷ []) (octets w n) p q (r ∙ ap (sets m1 a) (take-le_octets w n bs f t))
    ∙ ap (λ k. sets l at ((247 + k) ∷ octets k n)) e ∙ ap (sets l at) (sym (shortest_long n h))

pub length-shortest : (n : ℕ) → n < 2 ^ 64 → length (shortest n) ≤ 9
unfolding shortest
length-shortest n h =
    let P : List ℕ → Type 0 = λ ds. length ds ≤ 9 in
    cond_both (nat_le n 240) _ _ P (λ _. omega arith) λ _.
    cond_both (nat_le n 2287) _ _ P (λ _. omega arith) λ _.
    cond_both (nat_le n 67823) _ _ P (λ _. omega arith) λ _. omega (arith, length-octets (width n) n, (width-wide n h).high)

-- ---- no form is shorter than the one that is written
pub examples : Examples
unfolding shortest number second octets
examples = (refl, refl, refl, refl, refl)

-- the form by the size of the number
pub short_1 : (n : ℕ) → n ≤ 240 → length (shortest n) ≡ 1
unfolding shortest
short_1 n h = ap length (cond-true (nat_le n 240) _ _ (le-leb n 240 h))

pub short_2 : (n : ℕ) → n ≤ 2287 → length (shortest n) ≤ 2
unfolding shortest
short_2 n h =
    let P : List ℕ → Type 0 = λ ds. length ds ≤ 2 in
    cond_both (nat_le n 240) _ _ P (λ _. omega arith) λ _.
    subst P (sym (cond-true (nat_le n 2287) _ _ (le-leb n 2287 h))) (omega arith)

pub short_3 : (n : ℕ) → n ≤ 67823 → length (shortest n) ≤ 3
unfolding shortest
short_3 n h =
    let P : List ℕ → Type 0 = λ ds. length ds ≤ 3 in
    cond_both (nat_le n 240) _ _ P (λ _. omega arith) λ _.
    cond_both (nat_le n 2287) _ _ P (λ _. omega arith) λ _.
    subst P (sym (cond-true (nat_le n 67823) _ _ (le-leb n 67823 h))) (omega arith)

-- each width but the least is needed
width_low : (n : ℕ) → (width n ≡ 3) ⊎ (2 ^ (8 * (width n - 1)) ≤ n)
width_low n =
    let P : ℕ → Type 0 = λ w. (w ≡ 3) ⊎ (2 ^ (8 * (w - 1)) ≤ n) in
    cond_both (nat_lt n (2 ^ 24)) _ _ P (λ _. inl refl) λ e3.
    cond_both (nat_lt n (2 ^ 32)) _ _ P (λ _. inr (ltb-false n (2 ^ 24) e3)) λ e4.
    cond_both (nat_lt n (2 ^ 40)) _ _ P (λ _. inr (ltb-false n (2 ^ 32) e4)) λ e5.
    cond_both (nat_lt n (2 ^ 48)) _ _ P (λ _. inr (ltb-false n (2 ^ 40) e5)) λ e6.
    cond_both (nat_lt n (2 ^ 56)) _ _ P (λ _. inr (ltb-false n (2 ^ 48) e6)) λ e7. inr (ltb-false n (2 ^ 56) e7)

width-least : (n k : ℕ) → 3 ≤ k → n < 2 ^ (8 * k) → width n ≤ k
width-least n k h l =
    ⊎_elim (λ (e : width n ≡ 3). omega arith)
    (λ (e : 2 ^ (8 * (width n - 1)) ≤ n).
    ⊎_elim (λ (g : k < width n). let m : 8 * k ≤ 8 * (width n - 1) = omega arith in absurd (omega (arith, pow_mono m))) (λ (g : width n ≤ k). g) (cases_lt k (width n)))
    (width_low n)

short_long : (n k : ℕ) → 3 ≤ k → n < 2 ^ (8 * k) → length (shortest n) ≤ 1 + k
short_long n k h l =
    ⊎_elim (λ (g : 67823 < n). omega (arith, length_long n (width n) g refl, width-least n k h l))
    (λ (g : n ≤ 67823). omega (arith, short_3 n g)) (cases_lt 67823 n)

second-least : (base n : ℕ) (bs rest : List ℕ) → base ≤ 2032 → Bytes bs → second base bs ≡ Some (n, rest) → length (shortest n) + length rest ≤ suc (length bs)
unfolding second
second-least base n [] rest h f e = let z : ◌≡◌ {A = ℕ} 0 1 = cc in absurd (omega arith)
second-least base n (b ∷ bs) rest h f e =
    let p = some_is (base + b, bs) (n, rest) e in
    let l : b < 256 = f 0 in
    omega (arith, ap (λ q. q.0) p, ap (λ q. length q.1) p, short_2 n (omega (arith, ap (λ q. q.0) p)))

third-least : (n : ℕ) (bs rest : List ℕ) → Bytes bs → third bs ≡ Some (n, rest) → length (shortest n) + length rest ≤ suc (length bs)
third-least n [] rest f e = let z : ◌≡◌ {A = ℕ} 0 1 = cc in absurd (omega arith)
third-least n (a ∷ []) rest f e = let z : ◌≡◌ {A = ℕ} 0 1 = cc in absurd (omega arith)
third-least n (a ∷ b ∷ bs) rest f e =
    let p = some_is (2288 + 256 * a + b, bs) (n, rest) e in
    let k : a < 256 = f 0 in
    let l : b < 256 = f 1 in
    omega (arith, ap (λ q. q.0) p, ap (λ q. length q.1) p, short_3 n (omega (arith, ap (λ q. q.0) p)))

field-least : (k n : ℕ) (bs rest : List ℕ) → 3 ≤ k → Bytes bs → field k bs ≡ Some (n, rest) → length (shortest n) + length rest ≤ suc (length bs)
field-least k n bs rest h f e =
    let r = field_read k bs (n, rest) e in
    let len = length-take-le k bs r.enough in
    let b : Bytes (take k bs) = bytes_part k 0 bs f in
    let l : n < 2 ^ (8 * k) = subst (λ j. n < 2 ^ (8 * j)) len (subst (λ m. m < 2 ^ (8 * length (take k bs))) (sym r.value) (little-lt (take k bs) b)) in
    omega (arith, short_long n k h l, ap length r.left, length-drop k bs, r.enough)

pub number-least : (n : ℕ) (bs rest : List ℕ) → Bytes bs → number bs ≡ Some (n, rest) → length (shortest n) + length rest ≤ length bs
unfolding number
number-least n [] rest f = λ e. let z : ◌≡◌ {A = ℕ} 0 1 = cc in absurd (omega arith)
number-least n (x ∷ bs) rest f =
    let P : Option (ℕ × List ℕ) → Type 0 = λ o. o ≡ Some (n, rest) → length (shortest n) + length rest ≤ suc (length bs) in
    let g : Bytes bs = λ i. f (suc i) in
    cond_both (nat_le x 240) _ _ P
    (λ t e. let p = some_is (x, bs) (n, rest) e in
    omega (arith, ap (λ q. q.0) p, ap (λ q. length q.1) p, leb-true x 240 t, short_1 n (omega (arith, ap (λ q. q.0) p, leb-true x 240 t)))) λ t1.
    cond_both (nat_le x 248) _ _ P
    (λ t e. second-least (240 + 256 * (x - 241)) n bs rest (omega (arith, leb-true x 248 t)) g e) λ t2.
    cond_both (x == 249) _ _ P
    (λ t e. third-least n bs rest g e) λ t3 e.
    field-least (x - 247) n bs rest (omega (arith, leb-false x 248 t2, eqb-false x 249 t3)) g e
