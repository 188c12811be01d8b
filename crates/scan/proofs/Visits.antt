-- One header visited, exit by exit. Assumes nothing.
use Rattle.std.proofs.Common.{◌≡◌, ℕ, ◌-◌, Bool, true, false, cond, List, take, drop, Some, None, Ok, Err, Option, Result, sym, refl, ap, ◌∙◌, arith}
use Rattle.std.proofs.lemmas.Bool.{cond-true, cond-false}
use Rattle.device.specs.Reads.{part}
use Rattle.refusals.specs.declared.refusal.Refusal.{Refusal}
use Rattle.scan.specs.declared.header.UsedHeader.{UsedHeader}
use Rattle.scan.specs.Headers.{head_at, head_lsn, head_mark, used, weight}
use Rattle.scan.specs.Order.{Segment, Gathered, sound, unless, added, entered}
use Rattle.scan.specs.Offers.{offered, mark_of}

pub head_part : (first place : ℕ) (bytes : List ℕ) → first ≡ 0 → part first bytes place 20 ≡ head_at bytes place
unfolding head_at
head_part first place bytes z = let e : place - first ≡ place = omega arith in ap (λ n. take 20 (drop n bytes)) e

pub none_used : {X : Type 0} (b : Bool) (q : X) → None ≡ cond b (Some q) None → b ≡ false
none_used true q e = absurd (let z : ◌≡◌ {A = ℕ} 0 1 = cc in omega arith)
none_used false q e = refl

pub some_used : {X : Type 0} (b : Bool) (p q : X) → Some p ≡ cond b (Some q) None → (b ≡ true) × (p ≡ q)
some_used true p q e = (refl, cc)
some_used false p q e = absurd (let z : ◌≡◌ {A = ℕ} 0 1 = cc in omega arith)

pub unless_ok : {X : Type 0} (o : Option Refusal) (x : X) → Ok (tt {0}) ≡ unless o (tt {0}) → unless o x ≡ Ok x
unfolding unless
unless_ok None x e = refl
unless_ok (Some f) x e = absurd (let z : ◌≡◌ {A = ℕ} 0 1 = cc in omega arith)

pub unless_err : {X Y : Type 0} (o : Option Refusal) (f : Refusal) (y : Y) (x : X) → Err f ≡ unless o y → unless o x ≡ Err f
unfolding unless
unless_err None f y x e = absurd (let z : ◌≡◌ {A = ℕ} 0 1 = cc in omega arith)
unless_err (Some g) f y x e = cc

module _ (size low place : ℕ) (h : List ℕ) (ss : List Segment) where
  pub record Seen (r : Result ℕ Refusal) (after : List Segment) : Type 0 where
    pub reply : r ≡ unless (entered size low place h ss).fault (mark_of low h)
    pub contents : after ≡ (entered size low place h ss).segments

  pub seen_none : None ≡ offered low h → Seen (Ok 0) ss
  unfolding unless entered mark_of
  seen_none e =
      let u = none_used (used low h) (record { lsn = head_lsn h; mark = weight (head_mark h) }) e in
      let q : entered size low place h ss ≡ sound ss = grind arith in
      let m : mark_of low h ≡ 0 = cond-false _ _ _ u in
      record { reply = sym (ap (λ (g : Gathered). unless g.fault (mark_of low h)) q ∙ ap Ok m); contents = sym (ap (λ (g : Gathered). g.segments) q) }

  module _ (o : UsedHeader) (e : Some o ≡ offered low h) where
    is_used : used low h ≡ true
    is_used = (some_used (used low h) o (record { lsn = head_lsn h; mark = weight (head_mark h) }) e).0

    fields : o ≡ record { lsn = head_lsn h; mark = weight (head_mark h) }
    fields = (some_used (used low h) o (record { lsn = head_lsn h; mark = weight (head_mark h) }) e).1

    is-added : entered size low place h ss ≡ added size place o.lsn o.mark ss
    unfolding entered
    is-added =
        let u = is_used in
        let q : entered size low place h ss ≡ added size place (head_lsn h) (weight (head_mark h)) ss = grind arith in
        q ∙ sym (ap (λ (p : UsedHeader). added size place p.lsn p.mark ss) fields)

    mark_is : mark_of low h ≡ o.mark
    unfolding mark_of
    mark_is = cond-true _ _ _ is_used ∙ sym (ap (λ (p : UsedHeader). p.mark) fields)

    seen : (r : Result ℕ Refusal) (after : List Segment) → r ≡ unless (added size place o.lsn o.mark ss).fault o.mark → after ≡ (added size place o.lsn o.mark ss).segments → Seen r after
    seen r after e c = record {
      reply = e ∙ ap (unless (added size place o.lsn o.mark ss).fault) (sym mark_is) ∙ ap (λ (g : Gathered). unless g.fault (mark_of low h)) (sym is-added);
      contents = c ∙ ap (λ (g : Gathered). g.segments) (sym is-added);
    }

    pub seen_ok : (after : List Segment) → Ok (tt {0}) ≡ unless (added size place o.lsn o.mark ss).fault (tt {0}) → after ≡ (added size place o.lsn o.mark ss).segments → Seen (Ok o.mark) after
    seen_ok after r c = seen (Ok o.mark) after (sym (unless_ok (added size place o.lsn o.mark ss).fault o.mark r)) c

    pub seen_err : (f : Refusal) (after : List Segment) → Err f ≡ unless (added size place o.lsn o.mark ss).fault (tt {0}) → after ≡ (added size place o.lsn o.mark ss).segments → Seen (Err f) after
    seen_err f after r c = seen (Err f) after (sym (unless_err (added size place o.lsn o.mark ss).fault f (tt {0}) o.mark r)) c
