-- Where a walk gets to: its records rise, and it takes segments one after another. Assumes nothing.
use Rattle.std.specs.Option.{is_some}
use Rattle.std.proofs.Common.{◌≡◌, ℕ, zero, suc, ◌+◌, ◌%◌, ◌<◌, ◌≤◌, Bool, true, false, List, [], ◌∷◌, ◌++◌, drop, Some, None, Ok, Err, Option, Result, sym, refl, subst, arith}
use Rattle.blobs.specs.declared.note.Note.{Note}
use Rattle.messages.specs.Raw.{is_entry}
use Rattle.messages.specs.declared.log_read.Record.{Record}
use Rattle.pages.specs.Rising.{Rising}
use Rattle.refusals.specs.declared.refusal.Refusal.{Refusal}
use Rattle.scan.specs.Order.{Segment}
use Rattle.walks.specs.Walk.{past, turn_of, Exit, released, stopped, failed, follow, Walked, more, settled, with_held, read_in, in_segment, walk}
use Rattle.walks.specs.declared.turn.Turn.{Turn}
use Rattle.walks.specs.declared.turn.Turn.TheVariants.{Yield, Pass, Release, Stop}
use Rattle.walks.proofs.Turns.{Spans, At, entry_in, turn-spans, turn-at}

rises_low : (low from top : ℕ) (rs : List Record) → low ≤ from → Rising from top rs → Rising low top rs
rises_low low from top [] h r = omega arith
rises_low low from top (x ∷ rs) h r = (omega arith, r.1, r.2)

pub rises_ends : (low top : ℕ) (rs : List Record) → Rising low top rs → low ≤ top
rises_ends low top [] r = r
rises_ends low top (x ∷ rs) r = omega arith

pub rises_up : (low top over : ℕ) (rs : List Record) → top ≤ over → Rising low top rs → Rising low over rs
rises_up low top over [] h r = omega arith
rises_up low top over (x ∷ rs) h r = (r.0, omega arith, rises_up (suc x.lsn) top over rs h r.2)

rises_join : (low mid top : ℕ) (rs qs : List Record) → Rising low mid rs → Rising mid top qs → Rising low top (rs ++ qs)
rises_join low mid top [] qs r q = rises_low low mid top qs r q
rises_join low mid top (x ∷ rs) qs r q = (r.0, (let e = rises_ends mid top qs q in omega arith), rises_join (suc x.lsn) mid top rs qs r.2 q)

-- a segment is left at a progress of it, and held at an entry
abbrev Ended : ℕ → ℕ → ℕ → List Record × Exit → Type 0
Ended size key p (rs, released q) = (q ≤ size) × Rising (key + p) (key + q) rs
Ended size key p (rs, stopped q) = (is_entry size q ≡ true) × Rising (key + p) (key + q) rs
Ended size key p (rs, failed q e) = (is_entry size q ≡ true) × Rising (key + p) (key + q) rs

module _ (notes : ℕ → Option Note) (size : ℕ) (dev : List ℕ) (limit : Option ℕ) (last : Bool) where
  module _ (s : Segment) (aligned : s.value % size ≡ 0) where
    ended_behind : (p n : ℕ) (x : List Record × Exit) → Ended size s.key (p + n) x → Ended size s.key p x
    ended_behind p n (rs, released q) e = (e.0, rises_low (s.key + p) (s.key + (p + n)) (s.key + q) rs (omega arith) e.1)
    ended_behind p n (rs, stopped q) e = (e.0, rises_low (s.key + p) (s.key + (p + n)) (s.key + q) rs (omega arith) e.1)
    ended_behind p n (rs, failed q f) e = (e.0, rises_low (s.key + p) (s.key + (p + n)) (s.key + q) rs (omega arith) e.1)

    one_more : (p n q : ℕ) (r : Record) (rs : List Record) → 0 < n → r.lsn ≡ s.key + p → Rising (s.key + (p + n)) (s.key + q) rs → Rising (s.key + p) (s.key + q) (r ∷ rs)
    one_more p n q r rs h k e =
        let z = rises_ends (s.key + (p + n)) (s.key + q) rs e in
        (omega arith, omega arith, rises_low (suc r.lsn) (s.key + (p + n)) (s.key + q) rs (omega arith) e)

    ended_more : (p n : ℕ) (r : Record) (x : List Record × Exit) → 0 < n → r.lsn ≡ s.key + p → Ended size s.key (p + n) x → Ended size s.key p (r ∷ x.0, x.1)
    ended_more p n r (rs, released q) h k e = (e.0, one_more p n q r rs h k e.1)
    ended_more p n r (rs, stopped q) h k e = (e.0, one_more p n q r rs h k e.1)
    ended_more p n r (rs, failed q f) h k e = (e.0, one_more p n q r rs h k e.1)

    followed : (p : ℕ) (t : Result Turn Refusal) (on : ℕ → List Record × Exit) → is_entry size p ≡ true → Spans size p t → At (s.key + p) t
        → ((n : ℕ) → p + n ≤ size → Ended size s.key (p + n) (on (p + n))) → Ended size s.key p (follow p t on)
    unfolding follow
    followed p (Ok (Yield r)) on f sp a ih = ended_more p r.len r (on (p + r.len)) sp.some a (ih r.len sp.within)
    followed p (Ok (Pass n)) on f sp a ih = ended_behind p n (on (p + n)) (ih n sp.within)
    followed p (Ok Release) on f sp a ih = (omega (arith, entry_in size p f), omega arith)
    followed p (Ok Stop) on f sp a ih = (f, omega arith)
    followed p (Err e) on f sp a ih = (f, omega arith)

    ends : (fuel p : ℕ) → p ≤ size → Ended size s.key p (in_segment notes size dev limit last s fuel p)
    unfolding in_segment
    ends zero p h = (h, omega arith)
    ends (suc fuel) p h = go (is_entry size p) (past (s.key + p) limit) refl refl (ends fuel)
      where
        go : (b c : Bool) → is_entry size p ≡ b → past (s.key + p) limit ≡ c → ((q : ℕ) → q ≤ size → Ended size s.key q (in_segment notes size dev limit last s fuel q))
            → Ended size s.key p (in_segment notes size dev limit last s (suc fuel) p)
        go false c e u ih = let q : in_segment notes size dev limit last s (suc fuel) p ≡ ([], released p) = grind arith in subst (Ended size s.key p) (sym q) (h, omega arith)
        go true true e u ih = let q : in_segment notes size dev limit last s (suc fuel) p ≡ ([], stopped p) = grind arith in subst (Ended size s.key p) (sym q) (e, omega arith)
        go true false e u ih =
            let t = turn_of limit last (read_in notes size dev s p) in
            let q : in_segment notes size dev limit last s (suc fuel) p ≡ follow p t (in_segment notes size dev limit last s fuel) = grind arith in
            subst (Ended size s.key p) (sym q)
            (followed p t (in_segment notes size dev limit last s fuel) e (turn-spans notes size dev limit last s aligned p (omega (arith, entry_in size p e))) (turn-at notes size dev limit last s aligned p) (λ n l. ih (p + n) l))

-- ---- segments whose LSNs lie a whole segment apart, from one LSN up to another
abbrev pub Spaced : ℕ → ℕ → ℕ → List Segment → Type 0
Spaced size from top [] = from ≤ top
Spaced size from top (s ∷ ss) = (from ≤ s.key) × (s.value % size ≡ 0) × Spaced size (s.key + size) top ss

spaced_low : (size low from top : ℕ) (ss : List Segment) → low ≤ from → Spaced size from top ss → Spaced size low top ss
spaced_low size low from top [] h a = omega arith
spaced_low size low from top (s ∷ ss) h a = (omega arith, a.1, a.2)

spaced_ends : (size from top : ℕ) (ss : List Segment) → Spaced size from top ss → from ≤ top
spaced_ends size from top [] a = a
spaced_ends size from top (s ∷ ss) a = let e = spaced_ends size (s.key + size) top ss a.2 in omega arith

-- a held segment is held at an entry
abbrev pub HeldAt : ℕ → Option Segment → Option ℕ → Type 0
HeldAt size None o = Unit {0}
HeldAt size (Some s) None = ⊥
HeldAt size (Some s) (Some c) = (p : ℕ) × (is_entry size p ≡ true) × (c ≡ s.key + p)

-- where a walk stands that began at an LSN
abbrev pub reach : ℕ → Option ℕ → ℕ
reach from None = from
reach from (Some c) = c

abbrev Begins : ℕ → Option ℕ → Type 0
Begins from None = Unit {0}
Begins from (Some c) = c ≡ from

-- the segments held and left are the last ones
pub record Ran (size from top : ℕ) (ss : List Segment) (w : Walked) : Type 0 where
  pub rises : Rising from (reach from w.current) w.records
  pub below : reach from w.current ≤ top
  pub taken : ℕ
  pub others : with_held w.held w.left ≡ drop taken ss
  pub held : HeldAt size w.held w.current

-- with no current LSN no segment was taken
pub none_walked : (size from top : ℕ) (ss : List Segment) (w : Walked) → Ran size from top ss w → w.current ≡ None → w.records ≡ []
none_walked size from top ss w r e = go w.records (subst (λ o. Rising from (reach from o) w.records) e r.rises)
  where
    go : (rs : List Record) → Rising from from rs → rs ≡ []
    go [] h = refl
    go (x ∷ rs) h = absurd (omega arith)

module _ (notes : ℕ → Option Note) (size : ℕ) (dev : List ℕ) (limit : Option ℕ) (last : Bool) where
  walk_current : (c : ℕ) (ss : List Segment) → is_some (walk notes size dev limit last (Some c) ss).current ≡ true
  unfolding walk settled more
  walk_current c [] = refl
  walk_current c (s ∷ ss) = go (past s.key limit) refl (in_segment notes size dev limit last s size 20).1 refl (λ k. walk_current k ss)
    where
      go : (b : Bool) → past s.key limit ≡ b → (x : Exit) → (in_segment notes size dev limit last s size 20).1 ≡ x
          → ((k : ℕ) → is_some (walk notes size dev limit last (Some k) ss).current ≡ true) → is_some (walk notes size dev limit last (Some c) (s ∷ ss)).current ≡ true
      go true u x e ih = grind arith
      go false u (released q) e ih = let z = ih (s.key + q) in grind arith
      go false u (stopped q) e ih = grind arith
      go false u (failed q f) e ih = grind arith

  reach_any : (from mid top : ℕ) (o : Option ℕ) → is_some o ≡ true → reach mid o ≤ top → reach from o ≤ top
  reach_any from mid top None z h = absurd (let y : false ≡ true = z in let k : ◌≡◌ {A = ℕ} 0 1 = cc in omega arith)
  reach_any from mid top (Some c) z h = h

  -- records of a segment come before those behind it
  rises_past : (from mid : ℕ) (rs qs : List Record) (o : Option ℕ) → is_some o ≡ true → Rising from mid rs → Rising mid (reach mid o) qs → Rising from (reach from o) (rs ++ qs)
  rises_past from mid rs qs None z r q = absurd (let y : false ≡ true = z in let k : ◌≡◌ {A = ℕ} 0 1 = cc in omega arith)
  rises_past from mid rs qs (Some c) z r q = rises_join from mid c rs qs r q

  module _ (long : 20 ≤ size) (top : ℕ) where
    settled_ran : (from : ℕ) (s : Segment) (ss : List Segment) (x : List Record × Exit) → from ≤ s.key → s.key + size ≤ top → Ended size s.key 20 x
        → ((q : ℕ) → q ≤ size → Ran size (s.key + q) top ss (walk notes size dev limit last (Some (s.key + q)) ss))
        → Ran size from top (s ∷ ss) (settled s ss (λ q. walk notes size dev limit last (Some (s.key + q)) ss) x)
    unfolding settled more
    settled_ran from s ss (rs, released q) h l e ih =
        let w = walk notes size dev limit last (Some (s.key + q)) ss in
        let r = ih q e.0 in
        let k = walk_current (s.key + q) ss in
        record {
          rises = rises_past from (s.key + q) rs w.records w.current k (rises_low from (s.key + 20) (s.key + q) rs (omega arith) e.1) r.rises;
          below = reach_any from (s.key + q) top w.current k r.below;
          taken = suc r.taken;
          others = r.others;
          held = r.held;
        }
    settled_ran from s ss (rs, stopped q) h l e ih =
        record { rises = rises_low from (s.key + 20) (s.key + q) rs (omega arith) e.1; below = omega (arith, entry_in size q e.0); taken = 0; others = refl; held = (q, e.0, refl) }
    settled_ran from s ss (rs, failed q f) h l e ih =
        record { rises = rises_low from (s.key + 20) (s.key + q) rs (omega arith) e.1; below = omega (arith, entry_in size q e.0); taken = 0; others = refl; held = (q, e.0, refl) }

    untaken : (from : ℕ) (current : Option ℕ) (ss : List Segment) → Begins from current → from ≤ top → Ran size from top ss (record { records = []; current = current; held = None; left = ss; fault = None })
    untaken from None ss b l = record { rises = omega arith; below = l; taken = 0; others = refl; held = tt }
    untaken from (Some c) ss b l = record { rises = omega arith; below = omega arith; taken = 0; others = refl; held = tt }

    pub ran : (from : ℕ) (current : Option ℕ) (ss : List Segment) → Begins from current → Spaced size from top ss → Ran size from top ss (walk notes size dev limit last current ss)
    unfolding walk
    ran from current [] b a = untaken from current [] b a
    ran from current (s ∷ ss) b a = go (past s.key limit) refl (λ q l. ran (s.key + q) (Some (s.key + q)) ss refl (spaced_low size (s.key + q) (s.key + size) top ss (omega arith) a.2))
      where
        go : (p : Bool) → past s.key limit ≡ p → ((q : ℕ) → q ≤ size → Ran size (s.key + q) top ss (walk notes size dev limit last (Some (s.key + q)) ss))
            → Ran size from top (s ∷ ss) (walk notes size dev limit last current (s ∷ ss))
        go true u ih =
            let q : walk notes size dev limit last current (s ∷ ss) ≡ record { records = []; current = current; held = None; left = s ∷ ss; fault = None } = grind arith in
            subst (Ran size from top (s ∷ ss)) (sym q) (untaken from current (s ∷ ss) b (spaced_ends size from top (s ∷ ss) a))
        go false u ih =
            let q : walk notes size dev limit last current (s ∷ ss) ≡ settled s ss (λ q. walk notes size dev limit last (Some (s.key + q)) ss) (in_segment notes size dev limit last s size 20) = grind arith in
            subst (Ran size from top (s ∷ ss)) (sym q)
            (settled_ran from s ss (in_segment notes size dev limit last s size 20) a.0 (spaced_ends size (s.key + size) top ss a.2) (ends notes size dev limit last s a.1 size 20 long) ih)
