-- One turn of a walk, over segments and numbers. Assumes nothing.
use Rattle.std.proofs.Common.{◌≡◌, ℕ, zero, suc, ◌+◌, ◌*◌, ◌/◌, ◌%◌, ◌<◌, ◌≤◌, Bool, true, false, ◌&&◌, eqb, List, [], ◌∷◌, Some, None, Ok, Err, Option, Result, sym, refl, ap, ◌∙◌, subst, div-add-mod', arith}
use lib.Arith.{digits_mod}
use Rattle.std.proofs.lemmas.Bool.{cond_both}
use Rattle.std.proofs.lemmas.Bool.Decides.{nat_tests}
use Rattle.blobs.specs.declared.note.Note.{Note}
use Rattle.codec.specs.declared.word.Word.{Word}
use Rattle.layout.specs.Kinds.{kind_number, meant}
use Rattle.layout.specs.declared.kind.LogKind.{LogKind}
use Rattle.layout.specs.declared.kind.Meaning.{Meaning}
use Rattle.layout.specs.declared.kind.Meaning.TheVariants.{Corrupted as NoMessage, Canceled as Passed, Cap as Padding, BatchManifest as Manifest, Record as Records}
use Rattle.layout.specs.declared.kind.Storage.TheVariants.{Inline as InMessage, Blob as InFile}
use Rattle.messages.proofs.Spans.{Span, raw_span}
use Rattle.messages.specs.Raw.{Raw, is_entry, raw_at}
use Rattle.messages.specs.Told.{record_of, told, understood, manifest_told, blob_told, note_told}
use Rattle.messages.specs.declared.disk_pointer.DiskPtr.TheVariants.{Blob}
use Rattle.messages.specs.declared.log_read.Found.{Found}
use Rattle.messages.specs.declared.log_read.LogRead.TheVariants.{Record as Yielded}
use Rattle.messages.specs.declared.log_read.NoMessage.TheVariants.{Corrupted as Damaged, Short as Ended}
use Rattle.messages.specs.declared.log_read.Record.{Record}
use Rattle.refusals.specs.declared.refusal.Refusal.{Refusal}
use Rattle.refusals.specs.declared.refusal.Refusal.TheVariants.{Blob as BadBlob}
use Rattle.scan.specs.Order.{Segment}
use Rattle.walks.specs.Walk.{past, bounds, turn_of, Exit, released, stopped, failed, follow, Walked, more, settled, segment_bytes, read_in, in_segment}
use Rattle.walks.specs.declared.turn.Turn.{Turn}
use Rattle.walks.specs.declared.turn.Turn.TheVariants.{Yield, Pass, Release, Stop}

-- ---- a walk goes on behind a message by the message's length, and yields what stands at the LSN that it is at
abbrev Long : ℕ → Found → Result Turn Refusal → Type 0
Long lsn f (Ok (Yield r)) = (r.len ≡ f.len) × (r.lsn ≡ lsn)
Long lsn f (Ok (Pass n)) = n ≡ f.len
Long lsn f (Ok Release) = Unit {0}
Long lsn f (Ok Stop) = Unit {0}
Long lsn f (Err e) = Unit {0}

abbrev pub Spans : ℕ → ℕ → Result Turn Refusal → Type 0
Spans size p (Ok (Yield r)) = Span size p r.len
Spans size p (Ok (Pass n)) = Span size p n
Spans size p (Ok Release) = Unit {0}
Spans size p (Ok Stop) = Unit {0}
Spans size p (Err e) = Unit {0}

abbrev pub At : ℕ → Result Turn Refusal → Type 0
At lsn (Ok (Yield r)) = r.lsn ≡ lsn
At lsn (Ok (Pass n)) = Unit {0}
At lsn (Ok Release) = Unit {0}
At lsn (Ok Stop) = Unit {0}
At lsn (Err e) = Unit {0}

module _ (notes : ℕ → Option Note) (limit : Option ℕ) (last : Bool) where
  note_long : (place lsn : ℕ) (f : Found) (kind : LogKind) (pointer : ℕ) (o : Option Note) → Long lsn f (turn_of limit last (note_told place lsn f kind pointer o))
  unfolding turn_of
  note_long place lsn f kind pointer None = refl
  note_long place lsn f kind pointer (Some note) =
      cond_both (note.sound && eqb note.kind (kind_number f.kind)) (Ok (Yielded (record_of f kind lsn (Blob place pointer)))) (Err (BadBlob place)) (λ x. Long lsn f (turn_of limit last x)) (λ t. (refl, refl)) (λ t. tt)

  blob_long : (place lsn : ℕ) (f : Found) (kind : LogKind) (o : Option Word) → Long lsn f (turn_of limit last (blob_told notes place lsn f kind o))
  unfolding turn_of
  blob_long place lsn f kind None = tt
  blob_long place lsn f kind (Some w) = note_long place lsn f kind w.bits (notes w.bits)

  manifest_long : (place lsn : ℕ) (f : Found) (o : Option Word) → Long lsn f (turn_of limit last (manifest_told place f o))
  unfolding turn_of
  manifest_long place lsn f None = tt
  manifest_long place lsn f (Some w) = cond_both (bounds w limit) Stop (Pass f.len) (λ t. Long lsn f (Ok t)) (λ t. tt) (λ t. refl)

  told_long : (place lsn : ℕ) (f : Found) (m : Meaning) → Long lsn f (turn_of limit last (told notes place lsn f m))
  unfolding turn_of
  told_long place lsn f NoMessage = cond_both last Release Stop (λ t. Long lsn f (Ok t)) (λ t. tt) (λ t. tt)
  told_long place lsn f Passed = refl
  told_long place lsn f Padding = tt
  told_long place lsn f Manifest = manifest_long place lsn f f.word
  told_long place lsn f (Records kind InMessage) = (refl, refl)
  told_long place lsn f (Records kind InFile) = blob_long place lsn f kind f.word

  long_span : (size p lsn : ℕ) (f : Found) (t : Result Turn Refusal) → Span size p f.len → Long lsn f t → Spans size p t
  long_span size p lsn f (Ok (Yield r)) s l = record { some = omega (arith, s.some, l.0); within = omega (arith, s.within, l.0) }
  long_span size p lsn f (Ok (Pass n)) s l = record { some = omega (arith, s.some); within = omega (arith, s.within) }
  long_span size p lsn f (Ok Release) s l = tt
  long_span size p lsn f (Ok Stop) s l = tt
  long_span size p lsn f (Err e) s l = tt

  raw-spans : (size number first place lsn : ℕ) (bytes : List ℕ) (x : Raw) → raw_at size number first bytes place ≡ x → Spans size (place % size) (turn_of limit last (understood notes place lsn x))
  unfolding turn_of
  raw-spans size number first place lsn bytes (Ok f) e =
      long_span size (place % size) lsn f (turn_of limit last (told notes place lsn f (meant f.kind))) (raw_span size number first place bytes f e) (told_long place lsn f (meant f.kind))
  raw-spans size number first place lsn bytes (Err Damaged) e = cond_both last Release Stop (λ t. Spans size (place % size) (Ok t)) (λ t. tt) (λ t. tt)
  raw-spans size number first place lsn bytes (Err Ended) e = tt

  long_at : (lsn : ℕ) (f : Found) (t : Result Turn Refusal) → Long lsn f t → At lsn t
  long_at lsn f (Ok (Yield r)) l = l.1
  long_at lsn f (Ok (Pass n)) l = tt
  long_at lsn f (Ok Release) l = tt
  long_at lsn f (Ok Stop) l = tt
  long_at lsn f (Err e) l = tt

  understood_at : (place lsn : ℕ) (x : Raw) → At lsn (turn_of limit last (understood notes place lsn x))
  unfolding turn_of
  understood_at place lsn (Ok f) = long_at lsn f (turn_of limit last (told notes place lsn f (meant f.kind))) (told_long place lsn f (meant f.kind))
  understood_at place lsn (Err Damaged) = cond_both last Release Stop (λ t. At lsn (Ok t)) (λ t. tt) (λ t. tt)
  understood_at place lsn (Err Ended) = tt

-- a place of a segment has the progress that was added
pub progress_is : (size value p : ℕ) → value % size ≡ 0 → p < size → (value + p) % size ≡ p
progress_is size value p a h =
    let e : value / size * size + value % size ≡ value = div-add-mod' value size in
    let z : value + p ≡ value / size * size + p = omega arith in
    ap (λ n. n % size) z ∙ digits_mod (value / size) h

pub entry_in : (size p : ℕ) → is_entry size p ≡ true → p + 32 ≤ size
entry_in size p h = grind (arith, nat_tests)

pub follow_same : (p : ℕ) (t : Result Turn Refusal) (on on2 : ℕ → List Record × Exit) → ((r : Record) → t ≡ Ok (Yield r) → on (p + r.len) ≡ on2 (p + r.len)) → ((n : ℕ) → t ≡ Ok (Pass n) → on (p + n) ≡ on2 (p + n))
    → follow p t on ≡ follow p t on2
unfolding follow
follow_same p (Ok (Yield r)) on on2 f g = ap (λ (x : List Record × Exit). (r ∷ x.0, x.1)) (f r refl)
follow_same p (Ok (Pass n)) on on2 f g = g n refl
follow_same p (Ok Release) on on2 f g = refl
follow_same p (Ok Stop) on on2 f g = refl
follow_same p (Err e) on on2 f g = refl

pub more_nil : (w : Walked) → more [] w ≡ w
unfolding more
more_nil w = refl

pub settled-cons : (s : Segment) (ss : List Segment) (on : ℕ → Walked) (r : Record) (x : List Record × Exit) → settled s ss on (r ∷ x.0, x.1) ≡ more (r ∷ []) (settled s ss on x)
unfolding settled more
settled-cons s ss on r x = go x.1
  where
    go : (e : Exit) → settled s ss on (r ∷ x.0, e) ≡ more (r ∷ []) (settled s ss on (x.0, e))
    go (released p) = refl
    go (stopped p) = refl
    go (failed p e) = refl

module _ (notes : ℕ → Option Note) (size : ℕ) (dev : List ℕ) (limit : Option ℕ) (last : Bool) (s : Segment) (aligned : s.value % size ≡ 0) where
  abbrev pub turn_at : ℕ → Result Turn Refusal
  turn_at p = turn_of limit last (read_in notes size dev s p)

  pub turn-spans : (p : ℕ) → p < size → Spans size p (turn_at p)
  unfolding read_in
  turn-spans p h =
      subst (λ q. Spans size q (turn_at p)) (progress_is size s.value p aligned h)
      (raw-spans notes limit last size ((s.key + p) / size) s.value (s.value + p) (s.key + p) (segment_bytes size dev s.value) (raw_at size ((s.key + p) / size) s.value (segment_bytes size dev s.value) (s.value + p)) refl)

  pub turn-at : (p : ℕ) → At (s.key + p) (turn_at p)
  unfolding read_in
  turn-at p = understood_at notes limit last (s.value + p) (s.key + p) (raw_at size ((s.key + p) / size) s.value (segment_bytes size dev s.value) (s.value + p))

  no-entry : (p : ℕ) → size ≤ p → is_entry size p ≡ false
  no-entry p h = grind (arith, nat_tests)

  in-zero : (p : ℕ) → size ≤ p → (f : ℕ) → in_segment notes size dev limit last s f p ≡ ([], released p)
  unfolding in_segment
  in-zero p h zero = refl
  in-zero p h (suc f) = let z = no-entry p h in grind arith

  -- enough fuel is enough
  fuels : (f g p : ℕ) → size ≤ p + f → size ≤ p + g → in_segment notes size dev limit last s f p ≡ in_segment notes size dev limit last s g p
  unfolding in_segment
  fuels zero g p a b = sym (in-zero p (omega arith) g)
  fuels (suc f) zero p a b = in-zero p (omega arith) (suc f)
  fuels (suc f) (suc g) p a b = go (fuels f g) (is_entry size p) refl
    where
      go : ((q : ℕ) → size ≤ q + f → size ≤ q + g → in_segment notes size dev limit last s f q ≡ in_segment notes size dev limit last s g q)
          → (b : Bool) → is_entry size p ≡ b → in_segment notes size dev limit last s (suc f) p ≡ in_segment notes size dev limit last s (suc g) p
      go ih false e = grind arith
      go ih true e =
          let sp = turn-spans p (omega (arith, entry_in size p e)) in
          let k : follow p (turn_at p) (in_segment notes size dev limit last s f) ≡ follow p (turn_at p) (in_segment notes size dev limit last s g) =
          follow_same p (turn_at p) (in_segment notes size dev limit last s f) (in_segment notes size dev limit last s g)
          (λ r t. let q = subst (Spans size p) t sp in ih (p + r.len) (omega (arith, q.some)) (omega (arith, q.some)))
          (λ n t. let q = subst (Spans size p) t sp in ih (p + n) (omega (arith, q.some)) (omega (arith, q.some)))
          in
          grind arith

  in-open : (f p : ℕ) → is_entry size p ≡ true → past (s.key + p) limit ≡ false → in_segment notes size dev limit last s (suc f) p ≡ follow p (turn_at p) (in_segment notes size dev limit last s f)
  unfolding in_segment
  in-open f p e u = grind arith

  in-closed : (f p : ℕ) → is_entry size p ≡ false → in_segment notes size dev limit last s (suc f) p ≡ ([], released p)
  unfolding in_segment
  in-closed f p e = grind arith

  in-limit : (f p : ℕ) → is_entry size p ≡ true → past (s.key + p) limit ≡ true → in_segment notes size dev limit last s (suc f) p ≡ ([], stopped p)
  unfolding in_segment
  in-limit f p e u = grind arith

  -- a turn in a segment, with fuel as before
  pub in_step : (p : ℕ) → is_entry size p ≡ true → past (s.key + p) limit ≡ false → in_segment notes size dev limit last s size p ≡ follow p (turn_at p) (in_segment notes size dev limit last s size)
  in_step p e u = fuels size (suc size) p (omega arith) (omega arith) ∙ in-open size p e u

  pub in_out : (p : ℕ) → is_entry size p ≡ false → in_segment notes size dev limit last s size p ≡ ([], released p)
  in_out p e = fuels size (suc size) p (omega arith) (omega arith) ∙ in-closed size p e

  pub in_past : (p : ℕ) → is_entry size p ≡ true → past (s.key + p) limit ≡ true → in_segment notes size dev limit last s size p ≡ ([], stopped p)
  in_past p e u = fuels size (suc size) p (omega arith) (omega arith) ∙ in-limit size p e u
