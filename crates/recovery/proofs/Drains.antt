-- A walk to its end whose records are dropped. Assumes nothing.
use Rattle.std.proofs.Common.{◌≡◌, ℕ, ◌<◌, List, [], ◌∷◌, length, is_some, true, false, Some, None, Ok, Err, Option, Result, sym, ap, ◌∙◌, subst, arith}
use Rattle.blobs.specs.declared.note.Note.{Note}
use Rattle.messages.specs.declared.log_read.Record.{Record}
use Rattle.refusals.specs.declared.refusal.Refusal.{Refusal}
use Rattle.scan.specs.Order.{unless}
use Rattle.walks.specs.Walk.{Walked, more}
use Rattle.recovery.specs.State.{told_by, segment_of, rest_of, Sane, Next, ended}
use Rattle.recovery.specs.declared.iterator.LogIter.{LogIter}

module _ {D B : Type 0} (notes : B → ℕ → Option Note) (stored : D → List ℕ) where
  -- the walk's end is where it was
  pub record Draining (buffer : List ℕ) (body : ℕ) (v w : LogIter D B) : Type 0 where
    pub fault : (rest_of notes stored v).fault ≡ (rest_of notes stored w).fault
    pub current : (rest_of notes stored v).current ≡ (rest_of notes stored w).current
    pub sane : Sane notes stored buffer body w

  module _ (a b : List ℕ) (n : ℕ) (u v w : LogIter D B) (d : Draining a n u v) where
    -- one record more is dropped
    module _ (o : Option Record) (r : Result (Option Record) Refusal) (t : Next notes stored b n v w (ended r)) (e : r ≡ Ok o) where
      known : Next notes stored b n v w (ended (Ok o))
      known = subst (λ q. Next notes stored b n v w (ended q)) e t

      yielded : is_some o ≡ true → (x : Record) × (rest_of notes stored v ≡ more (x ∷ []) (rest_of notes stored w))
      unfolding told_by
      yielded i = go o i known.turn
        where
          go : (q : Option Record) → is_some q ≡ true → rest_of notes stored v ≡ told_by (ended (Ok q)) w.current (segment_of w.held) w.rest.now (rest_of notes stored w)
              → (x : Record) × (rest_of notes stored v ≡ more (x ∷ []) (rest_of notes stored w))
          go (Some x) j k = (x, k)
          go None j k = absurd (cc)

      pub draining_more : (m : ℕ) → m ≡ n → is_some o ≡ true → Draining b m u w
      unfolding more
      draining_more m l i = record {
        fault = d.fault ∙ ap (λ (q : Walked). q.fault) (yielded i).1;
        current = d.current ∙ ap (λ (q : Walked). q.current) (yielded i).1;
        sane = subst (λ k. Sane notes stored b k w) (sym l) t.sane;
      }

      pub fewer : is_some o ≡ true → length (rest_of notes stored w).records < length (rest_of notes stored v).records
      unfolding more
      fewer i = let k = ap (λ (q : Walked). length q.records) (yielded i).1 in omega arith

      pub drained : is_some o ≡ false → (Ok (tt {0}) ≡ unless (rest_of notes stored u).fault (tt {0})) × (w.current ≡ (rest_of notes stored u).current)
      unfolding told_by unless
      drained i =
          let k = go o i known.turn in
          (sym (ap (λ (x : Option Refusal). unless x (tt {0})) (d.fault ∙ ap (λ (q : Walked). q.fault) k)), sym (d.current ∙ ap (λ (q : Walked). q.current) k))
        where
          go : (q : Option Record) → is_some q ≡ false → rest_of notes stored v ≡ told_by (ended (Ok q)) w.current (segment_of w.held) w.rest.now (rest_of notes stored w)
              → rest_of notes stored v ≡ record { records = []; current = w.current; held = segment_of w.held; left = w.rest.now; fault = None }
          go (Some x) j k = absurd (cc)
          go None j k = k

    pub drained_fault : (r : Result (Option Record) Refusal) (x : Refusal) → Next notes stored b n v w (ended r) → r ≡ Err x → Err x ≡ unless (rest_of notes stored u).fault (tt {0})
    unfolding told_by unless
    drained_fault r x t e =
        let k = (subst (λ q. Next notes stored b n v w (ended q)) e t).turn in
        sym (ap (λ (o : Option Refusal). unless o (tt {0})) (d.fault ∙ ap (λ (q : Walked). q.fault) k))
