-- Zeros written to a device. Assumes nothing.
use Rattle.std.proofs.Common.{◌≡◌, ℕ, ◌+◌, ◌-◌, ◌/◌, ◌<◌, ◌≤◌, Bool, true, false, if◌then◌else◌, ◌||◌, ◌&&◌, ◌==◌, nat_lt, List, [], ◌∷◌, length, get_or, drop, replicate, Some, None, Option, Result, is_ok, refl, sym, ap, ap₂, ◌∙◌, subst, arith}
use Rattle.std.proofs.lemmas.Bool.Decides.{nat_tests}
use Rattle.std.proofs.lemmas.List.{length-replicate, drop_more, drop_all}
use Rattle.std.specs.List.{AllByRecursion}
use Rattle.device.specs.Meaning.{Meaning, Alike, wrote, zeroed, needed, needs}
use Rattle.device.specs.Writes.{written, loosened, spent}
use Rattle.device.specs.declared.error.DeviceError.{DeviceError}
use Rattle.walks.specs.Recover.{places}
use Rattle.walks.specs.Finish.{wholes}
use Rattle.scan.specs.Order.{Segment}
use Rattle.recovery.specs.Finishing.{with_rest, Fitting, Takes}
use Rattle.recovery.specs.declared.finish.Rest.{Rest}

-- ---- devices that are alike
pub alike_refl : (d : Meaning) → Alike d d
alike_refl d = record { bytes = refl; capacity = refl; block_size = refl; loose = λ b. refl; spare = refl }

pub alike_then : (a b c : Meaning) → Alike a b → Alike b c → Alike a c
alike_then a b c p q = record { bytes = p.bytes ∙ q.bytes; capacity = p.capacity ∙ q.capacity; block_size = p.block_size ∙ q.block_size; loose = λ k. p.loose k ∙ q.loose k; spare = p.spare ∙ q.spare }

alike-wrote : (d e : Meaning) (at : ℕ) (new : List ℕ) → Alike d e → Alike (wrote d at new) (wrote e at new)
unfolding wrote
alike-wrote d e at new a =
    let l : d.loose (at / d.block_size) ≡ e.loose (at / e.block_size) = a.loose (at / d.block_size) ∙ ap (λ s. e.loose (at / s)) a.block_size in
    record {
      bytes = ap (λ b. written b at new) a.bytes;
      capacity = a.capacity;
      block_size = a.block_size;
      loose = λ b. ap₂ (λ x s. x || (nat_lt 0 (length new) && b == at / s)) (a.loose b) a.block_size;
      spare = ap₂ (λ x s. if length new == 0 || x then s else s - 1) l a.spare;
    }

alike-zeroed : (d e : Meaning) (zs : List (ℕ × ℕ)) → Alike d e → Alike (zeroed d zs) (zeroed e zs)
unfolding zeroed
alike-zeroed d e [] a = a
alike-zeroed d e (z ∷ zs) a = alike-zeroed (wrote d z.0 (replicate z.1 0)) (wrote e z.0 (replicate z.1 0)) zs (alike-wrote d e z.0 (replicate z.1 0) a)

-- ---- one write
-- what the clauses of a write of zeros say
pub took : (d e : Meaning) (at n : ℕ) (new : List ℕ) (r : Result (Unit {0}) DeviceError) → new ≡ replicate n 0 → is_ok r ≡ true → e.bytes ≡ (if is_ok r then written d.bytes at new else d.bytes)
    → (e.capacity ≡ d.capacity) × (e.block_size ≡ d.block_size) → ((b : ℕ) → e.loose b ≡ (if is_ok r then loosened d.block_size d.loose at (length new) b else d.loose b))
    → e.spare ≡ (if is_ok r then spent d.block_size d.loose d.spare at (length new) else d.spare) → Alike e (wrote d at (replicate n 0))
unfolding wrote
took d e at n new r z k b s l p = rw (← z) (record {
  bytes = b ∙ ap (λ x. if x then written d.bytes at new else d.bytes) k;
  capacity = s.0;
  block_size = s.1;
  loose = λ q. l q ∙ ap (λ x. if x then loosened d.block_size d.loose at (length new) q else d.loose q) k;
  spare = p ∙ ap (λ x. if x then spent d.block_size d.loose d.spare at (length new) else d.spare) k;
})

-- ---- one write after another
needed_same : (size : ℕ) (k l : ℕ → Bool) (ps : List ℕ) → ((b : ℕ) → k b ≡ l b) → needed size k ps ≡ needed size l ps
unfolding needed
needed_same size k l [] h = refl
needed_same size k l (p ∷ ps) h =
    ap₂ (λ x n. (if x then 0 else 1) + n) (h (p / size)) (needed_same size (loosened size k p 1) (loosened size l p 1) ps (λ b. ap (λ x. x || (nat_lt 0 1 && b == p / size)) (h b)))

loosened_by_some : (size : ℕ) (k : ℕ → Bool) (p n b : ℕ) → 0 < n → loosened size k p n b ≡ loosened size k p 1 b
loosened_by_some size k p n b h = grind (arith, nat_tests)

-- from v on, `zs` were to be written, of which `ys` are left at w
pub record Zeroing (v : Meaning) (zs : List (ℕ × ℕ)) (w : Meaning) (ys : List (ℕ × ℕ)) : Type 0 where
  pub left : Alike (zeroed w ys) (zeroed v zs)
  pub takes : Takes w ys

zeroing_none : (v : Meaning) (zs : List (ℕ × ℕ)) → Takes v zs → Zeroing v zs v zs
zeroing_none v zs t = record { left = alike_refl (zeroed v zs); takes = t }

paid_more : (spare n p : ℕ) (x : Bool) (more : ℕ) → 0 < n → (if x then 0 else 1) + more ≤ spare → more ≤ (if n == 0 || x then spare else spare - 1)
paid_more spare n p x more h l = grind (arith, nat_tests)

first_paid : (x : Bool) (more spare : ℕ) → x ≡ false → (if x then 0 else 1) + more ≤ spare → 0 < spare
first_paid x more spare e h = grind (arith, nat_tests)

abbrev pub Run : Meaning → ℕ × ℕ → Type 0
Run w z = Fitting w.capacity w.block_size z × (w.loose (z.0 / w.block_size) ≡ false → 0 < w.spare)

takes_first : (w : Meaning) (z : ℕ × ℕ) (ys : List (ℕ × ℕ)) → Takes w (z ∷ ys) → Run w z
unfolding needed places
takes_first w z ys t = (t.fitting.0, λ e. first_paid (w.loose (z.0 / w.block_size)) (needed w.block_size (loosened w.block_size w.loose z.0 1) (places ys)) w.spare e t.paid)

module _ (w x : Meaning) (z : ℕ × ℕ) (ys : List (ℕ × ℕ)) (t : Takes w (z ∷ ys)) where
  takes_more : Alike x (wrote w z.0 (replicate z.1 0)) → Takes x ys
  unfolding wrote needed places
  takes_more a =
      let len : length (replicate z.1 0) ≡ z.1 = length-replicate z.1 0 in
      let f = t.fitting in
      let n = f.0.some in
      let l : (b : ℕ) → x.loose b ≡ loosened w.block_size w.loose z.0 1 b =
      λ b. a.loose b ∙ ap (λ k. loosened w.block_size w.loose z.0 k b) len ∙ loosened_by_some w.block_size w.loose z.0 z.1 b n in
      let e : needs x (places ys) ≡ needed w.block_size (loosened w.block_size w.loose z.0 1) (places ys) =
      needed_same x.block_size x.loose (loosened w.block_size w.loose z.0 1) (places ys) l ∙ ap (λ k. needed k (loosened w.block_size w.loose z.0 1) (places ys)) a.block_size in
      let q : needed w.block_size (loosened w.block_size w.loose z.0 1) (places ys) ≤ spent w.block_size w.loose w.spare z.0 z.1 =
      paid_more w.spare z.1 z.0 (w.loose (z.0 / w.block_size)) (needed w.block_size (loosened w.block_size w.loose z.0 1) (places ys)) n t.paid in
      let s : x.spare ≡ spent w.block_size w.loose w.spare z.0 z.1 = a.spare ∙ ap (λ k. spent w.block_size w.loose w.spare z.0 k) len in
      record {
        fitting = subst (λ c. AllByRecursion (Fitting c x.block_size) ys) (sym a.capacity) (subst (λ c. AllByRecursion (Fitting w.capacity c) ys) (sym a.block_size) f.1);
        paid = subst (λ k. needs x (places ys) ≤ k) (sym s) (subst (λ k. k ≤ spent w.block_size w.loose w.spare z.0 z.1) (sym e) q);
      }

  zeroing_more : (v : Meaning) (zs : List (ℕ × ℕ)) → Zeroing v zs w (z ∷ ys) → Alike x (wrote w z.0 (replicate z.1 0)) → Zeroing v zs x ys
  unfolding zeroed
  zeroing_more v zs g a = record {
    left = alike_then (zeroed x ys) (zeroed (wrote w z.0 (replicate z.1 0)) ys) (zeroed v zs) (alike-zeroed x (wrote w z.0 (replicate z.1 0)) ys a) g.left;
    takes = takes_more a;
  }

-- ---- the rest of the active segment
module _ (v : Meaning) (rest : Option Rest) (zs : List (ℕ × ℕ)) (t : Takes v (with_rest rest zs)) where
  pub rest_none : rest ≡ None → Zeroing v (with_rest rest zs) v zs
  rest_none e = subst (λ r. Zeroing v (with_rest rest zs) v (with_rest r zs)) e (zeroing_none v (with_rest rest zs) t)

  module _ (r : Rest) (e : rest ≡ Some r) where
    pub rest_run : Run v (r.place, r.len)
    rest_run = takes_first v (r.place, r.len) zs (subst (λ o. Takes v (with_rest o zs)) e t)

    pub rest_more : (x : Meaning) → Alike x (wrote v r.place (replicate r.len 0)) → Zeroing v (with_rest rest zs) x zs
    rest_more x a =
        zeroing_more v x (r.place, r.len) zs (subst (λ o. Takes v (with_rest o zs)) e t) v (with_rest rest zs)
        (subst (λ o. Zeroing v (with_rest rest zs) v (with_rest o zs)) e (zeroing_none v (with_rest rest zs) t)) a

-- ---- one segment after another
module _ (size i : ℕ) (v w : Meaning) (zs : List (ℕ × ℕ)) (ss : List Segment) (g : Zeroing v zs w (wholes size (drop i ss))) where
  pub whole_end : length ss ≤ i → Alike w (zeroed v zs)
  unfolding wholes zeroed
  whole_end h = (subst (λ (l : List Segment). Zeroing v zs w (wholes size l)) (drop_all i ss h) g).left

  module _ (d : Segment) (n : ℕ) (h : i < length ss) (e : n ≡ size) where
    next : Zeroing v zs w (((get_or ss i d).value, n) ∷ wholes size (drop (i + 1) ss))
    unfolding wholes
    next = rw e (subst (λ (l : List Segment). Zeroing v zs w (wholes size l)) (drop_more ss i d h) g)

    pub whole_run : Run w ((get_or ss i d).value, n)
    whole_run = takes_first w ((get_or ss i d).value, n) (wholes size (drop (i + 1) ss)) next.takes

    pub whole_more : (x : Meaning) → Alike x (wrote w (get_or ss i d).value (replicate n 0)) → Zeroing v zs x (wholes size (drop (i + 1) ss))
    whole_more x a = zeroing_more w x ((get_or ss i d).value, n) (wholes size (drop (i + 1) ss)) next.takes v zs next a
