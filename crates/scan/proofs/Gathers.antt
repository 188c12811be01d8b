-- The scan, header by header. Assumes nothing.
use Rattle.std.proofs.Common.{◌≡◌, ℕ, suc, ◌+◌, ◌*◌, ◌≤◌, max, Bool, true, false, cond, eqb, ltb, List, [], ◌∷◌, length, is_some, Some, None, Ok, Option, sym, refl, ap, ◌∙◌, subst, ap₂, arith}
use Rattle.std.proofs.lemmas.Bool.{cond_both}
use Rattle.std.proofs.lemmas.Bool.Decides.{nat_tests}
use Rattle.refusals.specs.declared.refusal.Refusal.{Refusal}
use Rattle.refusals.specs.declared.refusal.Refusal.TheVariants.{Header, SameLsn}
use Rattle.tables.specs.Entries.{find, put}
use Rattle.scan.specs.Headers.{head_at, head_lsn, head_mark, used, odd, weight}
use Rattle.scan.specs.Order.{Segment, Gathered, sound, unless, added, entered, enter, gather, top_mark}
use Rattle.scan.specs.Offers.{mark_of}

-- ---- what an entry adds
put-length : (x : Segment) (ss : List Segment) → length (put x ss) ≤ length ss + 1
unfolding put
put-length x [] = omega arith
put-length x (s ∷ ss) = let ih = put-length x ss in grind (arith, nat_tests)

top_mark-put : (dev : List ℕ) (low : ℕ) (x : Segment) (ss : List Segment) → is_some (find x.key ss) ≡ false
    → top_mark dev low (put x ss) ≡ max (weight (head_mark (head_at dev x.value))) (top_mark dev low ss)
unfolding put top_mark find
top_mark-put dev low x [] n = refl
top_mark-put dev low x (s ∷ ss) n =
    let ih = top_mark-put dev low x ss in
    cond_both (ltb s.key x.key) (s ∷ put x ss) (cond (eqb s.key x.key) (x ∷ ss) (x ∷ s ∷ ss))
    (λ l. top_mark dev low l ≡ max (weight (head_mark (head_at dev x.value))) (top_mark dev low (s ∷ ss)))
    (λ t. let u : is_some (find x.key ss) ≡ false = grind (arith, nat_tests) in omega (arith, ih u))
    (λ t. cond_both (eqb s.key x.key) (x ∷ ss) (x ∷ s ∷ ss) (λ l. top_mark dev low l ≡ max (weight (head_mark (head_at dev x.value))) (top_mark dev low (s ∷ ss)))
    (λ q. absurd (let z : ◌≡◌ {A = ℕ} 0 1 = grind (arith, nat_tests) in omega arith)) (λ q. refl))

-- a used header that is no fault is a segment more
pub added_none : (size place lsn mark : ℕ) (ss : List Segment) → (added size place lsn mark ss).fault ≡ None
    → (is_some (find lsn ss) ≡ false) × ((added size place lsn mark ss).segments ≡ put (record { key = lsn; value = place }) ss)
unfolding added
added_none size place lsn mark ss e = go (odd size lsn mark) refl (is_some (find lsn ss)) refl
  where
    go : (a : Bool) → odd size lsn mark ≡ a → (b : Bool) → is_some (find lsn ss) ≡ b → (is_some (find lsn ss) ≡ false) × ((added size place lsn mark ss).segments ≡ put (record { key = lsn; value = place }) ss)
    go true o b f = absurd (let z : ◌≡◌ {A = Option Refusal} (Some (Header place)) None = grind arith in let y : ◌≡◌ {A = ℕ} 0 1 = cc in omega arith)
    go false o true f = absurd (let z : ◌≡◌ {A = Option Refusal} (Some (SameLsn place)) None = grind arith in let y : ◌≡◌ {A = ℕ} 0 1 = cc in omega arith)
    go false o false f = (f, grind arith)

-- ---- one header more
pub record Scanning (size : ℕ) (dev : List ℕ) (low i top : ℕ) (ss : List Segment) : Type 0 where
  pub gathers : gather size dev low i ≡ sound ss
  pub marks : top ≡ top_mark dev low ss
  pub few : length ss ≤ i

pub scanning_none : (size : ℕ) (dev : List ℕ) (low : ℕ) (ss : List Segment) → ss ≡ [] → Scanning size dev low 0 low ss
unfolding gather top_mark
scanning_none size dev low ss e = record { gathers = ap sound (sym e); marks = sym (ap (top_mark dev low) e); few = omega (arith, ap length e) }

module _ (size : ℕ) (dev : List ℕ) (low i top : ℕ) (ss : List Segment) (s : Scanning size dev low i top ss) where
  abbrev head : List ℕ
  head = head_at dev (i * size)

  pub next_is : gather size dev low (suc i) ≡ entered size low (i * size) head ss
  unfolding gather enter
  next_is = ap (enter size low (i * size) head) s.gathers

  ok_fault : (o : Option Refusal) (n m : ℕ) → Ok m ≡ unless o n → (o ≡ None) × (m ≡ n)
  unfolding unless
  ok_fault None n m e = (refl, cc)
  ok_fault (Some f) n m e = absurd (let z : ◌≡◌ {A = ℕ} 0 1 = cc in omega arith)

  rebuilt : (g : Gathered) (after : List Segment) → g.fault ≡ None → after ≡ g.segments → g ≡ sound after
  rebuilt g after f a = ap₂ (λ (x : List Segment) (y : Option Refusal). record { segments = x; fault = y }) (sym a) f

  marks_more : (mark : ℕ) (after : List Segment) → (entered size low (i * size) head ss).fault ≡ None → mark ≡ mark_of low head → after ≡ (entered size low (i * size) head ss).segments
      → (b : Bool) → used low head ≡ b → (max top mark ≡ top_mark dev low after) × (length after ≤ suc i)
  unfolding entered mark_of
  marks_more mark after f m a false u =
      let e : after ≡ ss = grind arith in
      let z : mark ≡ 0 = grind arith in
      (omega (arith, s.marks, ap (top_mark dev low) e), omega (arith, s.few, ap length e))
  marks_more mark after f m a true u =
      let f2 : (added size (i * size) (head_lsn head) (weight (head_mark head)) ss).fault ≡ None = grind arith in
      let n = added_none size (i * size) (head_lsn head) (weight (head_mark head)) ss f2 in
      let s2 : (entered size low (i * size) head ss).segments ≡ (added size (i * size) (head_lsn head) (weight (head_mark head)) ss).segments = grind arith in
      let e : after ≡ put (record { key = head_lsn head; value = i * size }) ss = a ∙ s2 ∙ n.1 in
      let z : mark ≡ weight (head_mark head) = grind arith in (
        omega (arith, s.marks, ap (top_mark dev low) e, top_mark-put dev low (record { key = head_lsn head; value = i * size }) ss n.0),
        omega (arith, s.few, ap length e, put-length (record { key = head_lsn head; value = i * size }) ss),
      )

  scanning_more : (mark : ℕ) (after : List Segment) → Ok mark ≡ unless (entered size low (i * size) head ss).fault (mark_of low head) → after ≡ (entered size low (i * size) head ss).segments
      → Scanning size dev low (suc i) (max top mark) after
  scanning_more mark after r a =
      let q = ok_fault (entered size low (i * size) head ss).fault (mark_of low head) mark r in
      let m = marks_more mark after q.0 q.1 a (used low head) refl in
      record { gathers = next_is ∙ rebuilt (entered size low (i * size) head ss) after q.0 a; marks = m.0; few = m.1 }

  -- as the loop has it
  pub scanning_next : (place : ℕ) → place ≡ i * size → (mark t : ℕ) (after : List Segment) → t ≡ max top mark → Ok mark ≡ unless (entered size low place (head_at dev place) ss).fault (mark_of low (head_at dev place))
      → after ≡ (entered size low place (head_at dev place) ss).segments → Scanning size dev low (i + 1) t after
  scanning_next place here mark t after m r a =
      let o : suc i ≡ i + 1 = omega arith in
      let r' = subst (λ k. Ok mark ≡ unless (entered size low k (head_at dev k) ss).fault (mark_of low (head_at dev k))) here r in
      let a' = a ∙ ap (λ k. (entered size low k (head_at dev k) ss).segments) here in
      subst (λ n. Scanning size dev low n t after) o (subst (λ n. Scanning size dev low (suc i) n after) (sym m) (scanning_more mark after r' a'))
