-- What is known of the segments that a scan found: each is a used header in a slot of its own, and their LSNs rise. Assumes nothing.
use Rattle.std.proofs.Common.{◌≡◌, ℕ, zero, suc, ◌+◌, ◌*◌, ◌/◌, ◌%◌, ◌^◌, ◌<◌, ◌≤◌, Bool, true, false, cond, eqb, ltb, List, [], ◌∷◌, Some, None, Option, sym, refl, ap, ◌∙◌, subst, ⊎_elim, mul-le-mul_right, arith}
use native.Mathlib.Nat.{mul-mod_left, div-mul_cancel, dvd_of_mod-eq-zero}
use Rattle.std.proofs.ByRecursion.{All-weaker}
use Rattle.std.proofs.lemmas.Bool.{cond_both, cases_lt}
use Rattle.std.proofs.lemmas.Bool.Decides.{nat_tests}
use Rattle.std.specs.List.{AllByRecursion as All}
use Rattle.layout.proofs.Powers.{top_multiple}
use Rattle.layout.specs.Sizes.{is_segment_size}
use Rattle.refusals.specs.declared.refusal.Refusal.{Refusal}
use Rattle.refusals.specs.declared.refusal.Refusal.TheVariants.{Header}
use Rattle.tables.proofs.Puts.{rising-put}
use Rattle.tables.specs.Entries.{rising, put}
use Rattle.scan.specs.Headers.{head_at, head_lsn, head_mark, used, odd, weight}
use Rattle.scan.specs.Order.{Segment, Gathered, sound, added, entered, enter, gather}
use Rattle.scan.proofs.Gathers.{added_none}

-- a segment of the first n slots
pub record Taken (size : ℕ) (dev : List ℕ) (low n : ℕ) (s : Segment) : Type 0 where
  pub slot : ℕ
  pub within : slot < n
  pub place : s.value ≡ slot * size
  pub is_used : used low (head_at dev s.value) ≡ true
  pub lsn : s.key ≡ head_lsn (head_at dev s.value)
  pub fine : odd size s.key (weight (head_mark (head_at dev s.value))) ≡ false

pub record Orderly (size : ℕ) (dev : List ℕ) (low n : ℕ) (ss : List Segment) : Type 0 where
  pub all : All (Taken size dev low n) ss
  pub rises : rising ss ≡ true

all-put : (P : Segment → Type 0) (x : Segment) (ss : List Segment) → P x → All P ss → All P (put x ss)
unfolding put
all-put P x [] p a = (p, tt)
all-put P x (s ∷ ss) p a =
    let ih = all-put P x ss p a.1 in
    cond_both (ltb s.key x.key) (s ∷ put x ss) (cond (eqb s.key x.key) (x ∷ ss) (x ∷ s ∷ ss)) (All P) (λ t. (a.0, ih))
    (λ t. cond_both (eqb s.key x.key) (x ∷ ss) (x ∷ s ∷ ss) (All P) (λ q. (p, a.1)) (λ q. (p, a)))

later : (size : ℕ) (dev : List ℕ) (low n : ℕ) (s : Segment) → Taken size dev low n s → Taken size dev low (suc n) s
later size dev low n s t = record { slot = t.slot; within = omega (arith, t.within); place = t.place; is_used = t.is_used; lsn = t.lsn; fine = t.fine }

-- no fault, so the LSN is a multiple of the size, and LSN and mark are small
fine-added : (size place lsn mark : ℕ) (ss : List Segment) → (added size place lsn mark ss).fault ≡ None → odd size lsn mark ≡ false
unfolding added
fine-added size place lsn mark ss e = go (odd size lsn mark) refl
  where
    go : (b : Bool) → odd size lsn mark ≡ b → odd size lsn mark ≡ false
    go false o = o
    go true o = absurd (let z : ◌≡◌ {A = Option Refusal} (Some (Header place)) None = grind arith in let y : ◌≡◌ {A = ℕ} 0 1 = cc in omega arith)

no_fault : (g : Gathered) (ss : List Segment) → g ≡ sound ss → (g.fault ≡ None) × (g.segments ≡ ss)
no_fault g ss e = (ap (λ (x : Gathered). x.fault) e, ap (λ (x : Gathered). x.segments) e)

before : (size low place : ℕ) (h : List ℕ) (g : Gathered) (ss : List Segment) → enter size low place h g ≡ sound ss → (g ≡ sound g.segments) × (entered size low place h g.segments ≡ sound ss)
unfolding enter
before size low place h g ss e = go g.fault refl
  where
    go : (o : Option Refusal) → g.fault ≡ o → (g ≡ sound g.segments) × (entered size low place h g.segments ≡ sound ss)
    go None f = (ap (λ (x : Option Refusal). record { segments = g.segments; fault = x }) f, (let q : enter size low place h g ≡ entered size low place h g.segments = grind arith in sym q ∙ e))
    go (Some x) f =
        absurd (let q : enter size low place h g ≡ g = grind arith in let r : g.fault ≡ None = ap (λ (y : Gathered). y.fault) (sym q ∙ e) in let z : ◌≡◌ {A = ℕ} 0 1 = cc in omega arith)

orderly_more : (size : ℕ) (dev : List ℕ) (low n : ℕ) (ss ts : List Segment) → Orderly size dev low n ss → entered size low (n * size) (head_at dev (n * size)) ss ≡ sound ts → Orderly size dev low (suc n) ts
unfolding entered
orderly_more size dev low n ss ts o e = go (used low (head_at dev (n * size))) refl
  where
    go : (b : Bool) → used low (head_at dev (n * size)) ≡ b → Orderly size dev low (suc n) ts
    go false u =
        let q : entered size low (n * size) (head_at dev (n * size)) ss ≡ sound ss = grind arith in
        let s : ss ≡ ts = ap (λ (x : Gathered). x.segments) (sym q ∙ e) in
        subst (λ (l : List Segment). Orderly size dev low (suc n) l) s (record { all = All-weaker (Taken size dev low n) (Taken size dev low (suc n)) (later size dev low n) ss o.all; rises = o.rises })
    go true u =
        let h = head_at dev (n * size) in
        let x : Segment = record { key = head_lsn h; value = n * size } in
        let q : entered size low (n * size) h ss ≡ added size (n * size) (head_lsn h) (weight (head_mark h)) ss = grind arith in
        let f : (added size (n * size) (head_lsn h) (weight (head_mark h)) ss).fault ≡ None = ap (λ (y : Gathered). y.fault) (sym q ∙ e) in
        let a = added_none size (n * size) (head_lsn h) (weight (head_mark h)) ss f in
        let s : put x ss ≡ ts = sym a.1 ∙ ap (λ (y : Gathered). y.segments) (sym q ∙ e) in
        let t : Taken size dev low (suc n) x = record { slot = n; within = omega arith; place = refl; is_used = u; lsn = refl; fine = fine-added size (n * size) (head_lsn h) (weight (head_mark h)) ss f } in
        subst (λ (l : List Segment). Orderly size dev low (suc n) l) s
        (record { all = all-put (Taken size dev low (suc n)) x ss t (All-weaker (Taken size dev low n) (Taken size dev low (suc n)) (later size dev low n) ss o.all); rises = rising-put x ss o.rises })

-- what a scan without a fault has found
pub orderly : (size : ℕ) (dev : List ℕ) (low n : ℕ) (ss : List Segment) → gather size dev low n ≡ sound ss → Orderly size dev low n ss
unfolding gather
orderly size dev low zero ss e =
    let s : [] ≡ ss = ap (λ (x : Gathered). x.segments) e in
    subst (λ (l : List Segment). Orderly size dev low zero l) s (record { all = tt; rises = unfold rising in refl })
orderly size dev low (suc n) ss e =
    let b = before size low (n * size) (head_at dev (n * size)) (gather size dev low n) ss e in
    orderly_more size dev low n (gather size dev low n).segments ss (orderly size dev low n (gather size dev low n).segments b.0) b.1

-- ---- numbers of a segment
-- multiples of the size lie a whole segment apart
pub of_mult : (size n : ℕ) → n % size ≡ 0 → n / size * size ≡ n
of_mult size n e = div-mul_cancel size (dvd_of_mod-eq-zero size e)

pub gap : (size a b : ℕ) → a % size ≡ 0 → b % size ≡ 0 → a < b → a + size ≤ b
gap size a b ea eb h =
    let ma = of_mult size a ea in
    let mb = of_mult size b eb in
    ⊎_elim (λ (l : a / size < b / size). let m = mul-le-mul_right size l in omega arith)
    (λ (l : b / size ≤ a / size). let m = mul-le-mul_right size l in absurd (omega arith)) (cases_lt (a / size) (b / size))

module _ (size : ℕ) (dev : List ℕ) (low n : ℕ) (s : Segment) (t : Taken size dev low n s) where
  pub lsn-multiple : s.key % size ≡ 0
  unfolding odd
  lsn-multiple = let f = t.fine in grind (arith, nat_tests)

  pub lsn-small : s.key < 2 ^ 62
  unfolding odd
  lsn-small = let f = t.fine in grind (arith, nat_tests)

  pub lsn-least : low ≤ s.key
  unfolding used
  lsn-least = let u = t.is_used in let l = t.lsn in grind (arith, nat_tests)

  pub place-multiple : s.value % size ≡ 0
  place-multiple = ap (λ x. x % size) t.place ∙ mul-mod_left t.slot size

  pub place-ends : s.value + size ≤ n * size
  place-ends = let m = mul-le-mul_right size t.within in omega (arith, t.place)

  -- a size divides 2^62
  pub lsn-ends : is_segment_size size ≡ true → s.key + size ≤ 2 ^ 62
  lsn-ends z = gap size s.key (2 ^ 62) lsn-multiple (top_multiple size z) lsn-small
