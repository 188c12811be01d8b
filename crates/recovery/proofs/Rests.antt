-- One turn of a walk, by what is still to do. Assumes nothing.
use Rattle.std.proofs.Common.{◌≡◌, ℕ, ◌+◌, ◌%◌, Bool, true, false, List, [], ◌∷◌, Some, None, Option, Ok, Err, Result, sym, refl, ap, ◌∙◌, arith}
use Rattle.blobs.specs.declared.note.Note.{Note}
use Rattle.messages.specs.Raw.{is_entry}
use Rattle.messages.specs.declared.log_read.Record.{Record}
use Rattle.refusals.specs.declared.refusal.Refusal.{Refusal}
use Rattle.scan.specs.Order.{Segment}
use Rattle.walks.proofs.Turns.{more_nil, settled-cons, in_out, in_past, in_step}
use Rattle.recovery.specs.State.{told_by, rest}
use Rattle.walks.specs.Walk.{past, turn_of, released, stopped, follow, Walked, more, settled, read_in, in_segment, walk}
use Rattle.std.specs.declared.ops.ControlFlow.TheVariants.{Break}
use Rattle.walks.specs.declared.turn.Turn.{Turn}
use Rattle.walks.specs.declared.turn.Turn.TheVariants.{Yield, Pass, Release, Stop}

-- what is still to do before and behind a turn in a segment
module _ (notes : ℕ → Option Note) (size : ℕ) (dev : List ℕ) (limit : Option ℕ) (last : Bool) (s : Segment) (aligned : s.value % size ≡ 0) where
  abbrev turn_at : ℕ → Result Turn Refusal
  turn_at p = turn_of limit last (read_in notes size dev s p)

  module _ (have p : ℕ) (current : Option ℕ) (ss : List Segment) where
    abbrev behind : ℕ → Walked
    behind q = walk notes size dev limit last (Some (s.key + q)) ss

    abbrev todo : ℕ → Option ℕ → Walked
    todo q c = rest notes dev size limit last (Some (record { segment = s; have = have; progress = q })) c ss

    -- the segment is let go
    let_go : in_segment notes size dev limit last s size p ≡ ([], released p) → current ≡ Some (s.key + p) → todo p current ≡ rest notes dev size limit last None current ss
    unfolding rest settled
    let_go e c = ap (settled s ss behind) e ∙ more_nil (behind p) ∙ ap (λ k. walk notes size dev limit last k ss) (sym c)

    -- the walk ends, and the segment stays held
    ends : (w : Walked) → in_segment notes size dev limit last s size p ≡ ([], stopped p) → current ≡ Some (s.key + p) → todo p current ≡ told_by (Ok (Break None)) current (Some s) ss w
    unfolding rest settled told_by
    ends w e c = ap (settled s ss behind) e ∙ ap (λ (k : Option ℕ). record { records = []; current = k; held = Some s; left = ss; fault = None }) (sym c)

    pub t-out : is_entry size p ≡ false → current ≡ Some (s.key + p) → todo p current ≡ rest notes dev size limit last None current ss
    t-out e c = let_go (in_out notes size dev limit last s aligned p e) c

    pub t-past : (w : Walked) → is_entry size p ≡ true → past (s.key + p) limit ≡ true → current ≡ Some (s.key + p) → todo p current ≡ told_by (Ok (Break None)) current (Some s) ss w
    t-past w e u c = ends w (in_past notes size dev limit last s aligned p e u) c

    module _ (e : is_entry size p ≡ true) (u : past (s.key + p) limit ≡ false) where
      stepped : (t : Result Turn Refusal) → turn_at p ≡ t → in_segment notes size dev limit last s size p ≡ follow p t (in_segment notes size dev limit last s size)
      stepped t i = in_step notes size dev limit last s aligned p e u ∙ ap (λ x. follow p x (in_segment notes size dev limit last s size)) i

      pub t-yield : (r : Record) (q : ℕ) (c : Option ℕ) → turn_at p ≡ Ok (Yield r) → q ≡ p + r.len → todo p current ≡ told_by (Ok (Break (Some r))) c (Some s) ss (todo q c)
      unfolding rest told_by follow
      t-yield r q c i l =
          ap (settled s ss behind) (stepped (Ok (Yield r)) i)
          ∙ settled-cons s ss behind r (in_segment notes size dev limit last s size (p + r.len))
          ∙ ap (λ m. more (r ∷ []) (settled s ss behind (in_segment notes size dev limit last s size m))) (sym l)

      pub t-pass : (n q : ℕ) (c : Option ℕ) → turn_at p ≡ Ok (Pass n) → q ≡ p + n → todo p current ≡ todo q c
      unfolding rest follow
      t-pass n q c i l = ap (settled s ss behind) (stepped (Ok (Pass n)) i ∙ ap (in_segment notes size dev limit last s size) (sym l))

      pub t-release : turn_at p ≡ Ok Release → current ≡ Some (s.key + p) → todo p current ≡ rest notes dev size limit last None current ss
      unfolding follow
      t-release i c = let_go (stepped (Ok Release) i) c

      pub t-stop : (w : Walked) → turn_at p ≡ Ok Stop → current ≡ Some (s.key + p) → todo p current ≡ told_by (Ok (Break None)) current (Some s) ss w
      unfolding follow
      t-stop w i c = ends w (stepped (Ok Stop) i) c

      pub t-fail : (f : Refusal) (w : Walked) → turn_at p ≡ Err f → current ≡ Some (s.key + p) → todo p current ≡ told_by (Err f) current (Some s) ss w
      unfolding rest settled told_by follow
      t-fail f w i c =
          ap (settled s ss behind) (stepped (Err f) i) ∙ ap (λ (k : Option ℕ). record { records = []; current = k; held = Some s; left = ss; fault = Some f }) (sym c)

-- ---- the next segment taken
module _ (notes : ℕ → Option Note) (size : ℕ) (dev : List ℕ) (limit : Option ℕ) (last : Bool) (current : Option ℕ) where
  pub w-none : (ss : List Segment) (w : Walked) → ss ≡ [] → rest notes dev size limit last None current ss ≡ told_by (Ok (Break None)) current None ss w
  unfolding rest told_by walk
  w-none ss w e = rw e refl

  pub w-past : (s : Segment) (ss : List Segment) (w : Walked) → past s.key limit ≡ true → rest notes dev size limit last None current (s ∷ ss) ≡ told_by (Ok (Break None)) current None (s ∷ ss) w
  unfolding rest told_by walk
  w-past s ss w u = grind arith

  pub w-take : (s : Segment) (ss : List Segment) (have : ℕ) (c : Option ℕ) → past s.key limit ≡ false → rest notes dev size limit last None current (s ∷ ss) ≡ rest notes dev size limit last (Some (record { segment = s; have = have; progress = 20 })) c ss
  unfolding rest walk
  w-take s ss have c u = grind arith
