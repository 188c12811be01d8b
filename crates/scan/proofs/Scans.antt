-- The whole scan, exit by exit. Assumes nothing.
use Rattle.std.proofs.Common.{◌≡◌, ℕ, zero, suc, ◌+◌, ◌-◌, ◌*◌, ◌<◌, ◌≤◌, Bool, true, false, cond, List, [], length, Some, None, Ok, Err, Option, Result, sym, refl, ap, ◌∙◌, subst, arith}
use Rattle.std.specs.Option.{ok_or}
use Rattle.std.proofs.lemmas.Bool.{cond-true, cond-false, lt-ltb, le-ltb}
use Rattle.layout.specs.Sizes.{is_segment_size, counted}
use Rattle.refusals.specs.declared.refusal.Refusal.{Refusal}
use Rattle.refusals.specs.declared.refusal.Refusal.TheVariants.{Size, Buffer}
use Rattle.scan.specs.Headers.{head_at}
use Rattle.scan.specs.Order.{Segment, Gathered, faulty, sound, unless, entered, enter, gather, top_mark, scanned}
use Rattle.scan.specs.Offers.{mark_of}
use Rattle.scan.proofs.Visits.{unless_err}
use Rattle.scan.proofs.Gathers.{Scanning, next_is}

-- behind a fault nothing more is entered
stays : (size : ℕ) (dev : List ℕ) (low m k : ℕ) (e : Refusal) → (gather size dev low m).fault ≡ Some e → gather size dev low (k + m) ≡ gather size dev low m
unfolding gather enter
stays size dev low m zero e f = let z : zero + m ≡ m = omega arith in ap (gather size dev low) z
stays size dev low m (suc k) e f =
    let ih = stays size dev low m k e f in
    let f2 : (gather size dev low (k + m)).fault ≡ Some e = ap (λ (g : Gathered). g.fault) ih ∙ f in
    let z : suc k + m ≡ suc (k + m) = omega arith in
    let q : gather size dev low (suc (k + m)) ≡ gather size dev low (k + m) = grind arith in
    ap (gather size dev low) z ∙ q ∙ ih

err_fault : {X : Type 0} (o : Option Refusal) (e : Refusal) (x : X) → Err e ≡ unless o x → o ≡ Some e
unfolding unless
err_fault None e x p = absurd (let z : ◌≡◌ {A = ℕ} 0 1 = cc in omega arith)
err_fault (Some f) e x p = cc

-- what `SegmentSize::new` says of a size, passed on by `ok_or`
pub size_refused : (size : ℕ) (e f : Refusal) (o : Option ℕ) → o ≡ cond (is_segment_size size) (Some size) None → Err f ≡ ok_or o e → (is_segment_size size ≡ false) × (f ≡ e)
size_refused size e f o h k = go (is_segment_size size) (k ∙ ap (λ x. ok_or x e) h)
  where
    go : (b : Bool) → Err f ≡ ok_or (cond b (Some size) None) e → (b ≡ false) × (f ≡ e)
    go true x = cc
    go false x = (refl, cc)

pub size_taken : (size n : ℕ) (e : Refusal) (o : Option ℕ) → o ≡ cond (is_segment_size size) (Some size) None → Ok n ≡ ok_or o e → (n ≡ size) × (is_segment_size n ≡ true)
size_taken size n e o h k =
    let t = go (is_segment_size size) (k ∙ ap (λ x. ok_or x e) h) in (t.1, ap is_segment_size t.1 ∙ t.0)
  where
    go : (b : Bool) → Ok n ≡ ok_or (cond b (Some size) None) e → (b ≡ true) × (n ≡ size)
    go true x = (refl, cc)
    go false x = cc

module _ (room size : ℕ) (dev : List ℕ) (low : ℕ) where
  pub record Scanned (r : Result ℕ Refusal) (after : List Segment) : Type 0 where
    pub reply : r ≡ unless (scanned room size dev low).fault (top_mark dev low (scanned room size dev low).segments)
    pub contents : after ≡ (scanned room size dev low).segments

  done : (g : Gathered) → scanned room size dev low ≡ g → (r : Result ℕ Refusal) (after : List Segment) → r ≡ unless g.fault (top_mark dev low g.segments) → after ≡ g.segments → Scanned r after
  done g e r after p a = record {
    reply = p ∙ ap (λ (x : Gathered). unless x.fault (top_mark dev low x.segments)) (sym e);
    contents = a ∙ ap (λ (x : Gathered). x.segments) (sym e);
  }

  pub scan-size : (after : List Segment) → is_segment_size size ≡ false → after ≡ [] → Scanned (Err Size) after
  unfolding scanned unless
  scan-size after n a = done (faulty [] Size) (cond-false _ _ _ n) (Err Size) after refl a

  module _ (z : is_segment_size size ≡ true) (n : ℕ) (count_is : n ≡ counted (length dev) size) where
    pub scan_room : (after : List Segment) → room < n → after ≡ [] → Scanned (Err Buffer) after
    unfolding scanned unless
    scan_room after h a = done (faulty [] Buffer) (cond-true _ _ _ z ∙ cond-true _ _ _ (lt-ltb room (counted (length dev) size) (omega (arith, count_is)))) (Err Buffer) after refl a

    all : n ≤ room → scanned room size dev low ≡ gather size dev low n
    unfolding scanned
    all h = cond-true _ _ _ z ∙ cond-false _ _ _ (le-ltb room (counted (length dev) size) (omega (arith, count_is))) ∙ ap (gather size dev low) (sym count_is)

    pub scan_fault : (i top : ℕ) (ss : List Segment) → n ≤ room → Scanning size dev low i top ss → i < n → (place : ℕ) → place ≡ i * size → (e : Refusal) (after : List Segment)
        → Err e ≡ unless (entered size low place (head_at dev place) ss).fault (mark_of low (head_at dev place))
        → after ≡ (entered size low place (head_at dev place) ss).segments → Scanned (Err e) after
    scan_fault i top ss h s l place here e after reply contents =
        let g = entered size low (i * size) (head_at dev (i * size)) ss in
        let p : Err e ≡ unless g.fault (mark_of low (head_at dev (i * size))) = subst (λ k. Err e ≡ unless (entered size low k (head_at dev k) ss).fault (mark_of low (head_at dev k))) here reply in
        let a : after ≡ g.segments = contents ∙ ap (λ k. (entered size low k (head_at dev k) ss).segments) here in
        let f : gather size dev low (suc i) ≡ g = next_is size dev low i top ss s in
        let x : g.fault ≡ Some e = err_fault g.fault e (mark_of low (head_at dev (i * size))) p in
        let k : gather size dev low n ≡ gather size dev low (suc i) =
        (let z : n ≡ (n - suc i) + suc i = omega arith in ap (gather size dev low) z ∙ stays size dev low (suc i) (n - suc i) e (ap (λ (y : Gathered). y.fault) f ∙ x)) in
        done g (all h ∙ k ∙ f) (Err e) after (sym (unless_err g.fault e (mark_of low (head_at dev (i * size))) (top_mark dev low g.segments) p)) a

    pub scan-done : (i top : ℕ) (ss : List Segment) → n ≤ room → Scanning size dev low i top ss → i ≡ n → Scanned (Ok top) ss
    unfolding unless
    scan-done i top ss h s z = done (sound ss) (all h ∙ ap (gather size dev low) (sym z) ∙ s.gathers) (Ok top) ss (ap Ok s.marks) refl
