-- What is known once the first checks are passed. Assumes nothing.
use Rattle.std.proofs.Common.{◌≡◌, ℕ, ◌*◌, ◌≤◌, Bool, true, false, List, ◌∷◌, length, Some, None, Ok, Err, Option, Result, sym, refl, ◌∙◌, arith}
use Rattle.std.proofs.lemmas.Bool.Decides.{nat_tests}
use Rattle.blobs.specs.declared.note.Note.{Note}
use Rattle.device.specs.Meaning.{Meaning}
use Rattle.layout.specs.Sizes.{is_segment_size, counted}
use Rattle.pages.proofs.Layouts.{length-nested, fragments-nested}
use Rattle.pages.specs.Shown.{tidy}
use Rattle.pages.specs.Snapshots.{snap_of, well_formed}
use Rattle.pages.specs.declared.snapshot.Snapshot.{Snapshot}
use Rattle.refusals.specs.declared.refusal.Refusal.{Refusal}
use Rattle.walks.specs.Recover.{checked, at_first}
use Rattle.recovery.specs.Checks.{budget_of, unless_some, first_reply}
use Rattle.recovery.specs.declared.checks.Budget.{Budget as Lent}

-- a test that does not apply, and those behind it
pub checked_rest : (t : Bool × Refusal) (ts : List (Bool × Refusal)) → checked (t ∷ ts) ≡ None → (t.0 ≡ false) × (checked ts ≡ None)
unfolding checked
checked_rest t ts e = go t.0 refl
  where
    go : (b : Bool) → t.0 ≡ b → (t.0 ≡ false) × (checked ts ≡ None)
    go false b = (b, (let q : checked (t ∷ ts) ≡ checked ts = grind arith in sym q ∙ e))
    go true b = absurd (let z : ◌≡◌ {A = Option Refusal} (Some t.1) None = grind arith in let y : ◌≡◌ {A = ℕ} 0 1 = cc in omega arith)

pub record Fit (d : Meaning) (size : ℕ) (given : Snapshot) (b : Lent) : Type 0 where
  pub sized : is_segment_size size ≡ true
  pub block : d.block_size ≡ size
  pub segment : size ≤ b.segment
  pub body : size ≤ b.body
  pub order : counted (length d.bytes) size ≤ b.order
  pub count : counted (length d.bytes) size ≤ 1024
  pub capacity : counted (length d.bytes) size * size ≤ d.capacity
  pub tidy : tidy 0 given.pages.now given.fragments.now ≡ true
  pub formed : well_formed size (snap_of given) ≡ true
  pub pages : length given.pages.now ≤ b.pages
  pub fragments : length given.fragments.now ≤ b.fragments

module _ (notes : ℕ → Option Note) (d : Meaning) (size : ℕ) (given : Snapshot) (b : Lent) where
  abbrev pub first : Option Refusal
  first = checked (at_first notes d size (tidy 0 given.pages.now given.fragments.now) (snap_of given) (budget_of b))

  pub first_fit : first ≡ None → Fit d size given b
  unfolding at_first snap_of
  first_fit e =
      let a = checked_rest _ _ e in
      let f = checked_rest _ _ a.1 in
      let g = checked_rest _ _ f.1 in
      let h = checked_rest _ _ g.1 in
      let i = checked_rest _ _ h.1 in
      let j = checked_rest _ _ i.1 in
      let t : tidy 0 given.pages.now given.fragments.now ≡ true = let q = h.0 in grind (arith, nat_tests) in
      let l = length-nested given.pages.now given.fragments.now in
      let m = fragments-nested 0 given.pages.now given.fragments.now t in
      record {
        sized = let q = a.0 in grind (arith, nat_tests);
        block = let q = a.0 in grind (arith, nat_tests);
        segment = let q = f.0 in grind (arith, nat_tests);
        body = let q = f.0 in grind (arith, nat_tests);
        order = let q = f.0 in grind (arith, nat_tests);
        count = let q = g.0 in grind (arith, nat_tests);
        capacity = let q = g.0 in grind (arith, nat_tests);
        tidy = t;
        formed = let q = h.0 in grind (arith, nat_tests);
        pages = let q = i.0 in grind (arith, nat_tests);
        fragments = let q = j.0 in grind (arith, nat_tests);
      }

  -- what is answered of the first checks
  pub first_none : (s : ℕ) → Ok s ≡ first_reply d size given b → (first ≡ None) × (s ≡ size)
  unfolding first_reply unless_some at_first
  first_none s e = go first refl
    where
      go : (o : Option Refusal) → first ≡ o → (first ≡ None) × (s ≡ size)
      go None q = (q, (let z : ◌≡◌ {A = Result ℕ Refusal} (Ok s) (Ok size) = grind arith in cc))
      go (Some f) q = absurd (let z : ◌≡◌ {A = Result ℕ Refusal} (Ok s) (Err f) = grind arith in let y : ◌≡◌ {A = ℕ} 0 1 = cc in omega arith)

  pub first_some : (f : Refusal) → Err f ≡ first_reply d size given b → first ≡ Some f
  unfolding first_reply unless_some at_first
  first_some f e = go first refl
    where
      go : (o : Option Refusal) → first ≡ o → first ≡ Some f
      go None q = absurd (let z : ◌≡◌ {A = Result ℕ Refusal} (Err f) (Ok size) = grind arith in let y : ◌≡◌ {A = ℕ} 0 1 = cc in omega arith)
      go (Some h) q = q ∙ (let z : ◌≡◌ {A = Result ℕ Refusal} (Err f) (Err h) = grind arith in cc)
