-- Records that come to the pages one after another. Assumes nothing.
use Rattle.std.proofs.Common.{◌≡◌, ℕ, suc, ◌+◌, ◌<◌, ◌≤◌, List, [], ◌∷◌, length, OnOk, Option, Some, None, Ok, Err, Result, sym, refl, ap, ◌∙◌, subst, ⊎_elim, arith}
use Rattle.std.proofs.lemmas.Bool.{cases_lt}
use Rattle.std.proofs.lemmas.Bool.Decides.{nat_tests}
use Rattle.blobs.specs.declared.note.Note.{Note}
use Rattle.messages.specs.declared.log_read.Record.{Record}
use Rattle.pages.specs.Pages.{apply, verdict, fold}
use Rattle.refusals.specs.declared.refusal.Refusal.{Refusal}
use Rattle.scan.specs.Order.{unless}
use Rattle.walks.specs.Walk.{Walked, more}
use Rattle.recovery.proofs.Applies.{kept_up}
use Rattle.recovery.specs.Flat.{flat, Kept, SameTables}
use Rattle.recovery.specs.Folds.{folds, Goes, Took, Foldable, fold_reply, Folded, reached_by}
use Rattle.recovery.specs.State.{Sane, Next, rest_of, told_by, segment_of, ended}
use Rattle.recovery.specs.declared.iterator.LogIter.{LogIter}
use Rattle.recovery.specs.declared.page_table.PageTable.{PageTable}

pub passed_over : (low : ℕ) (r : Record) (t : PageTable) → r.lsn < low → Goes low r t t
unfolding fold
passed_over low r t h = record { folds = λ rs. grind (arith, nat_tests); skipped = λ l. refl; kept = λ l. absurd (omega arith) }

pub took_one : (low : ℕ) (r : Record) (t u : PageTable) (o : Result (Unit {0}) Refusal) → low ≤ r.lsn → SameTables t u → o ≡ verdict (length t.states.now) (length t.fragments.now) (flat t) r
    → OnOk o (flat u ≡ apply (flat t) r) → OnOk o (Kept (r.lsn + 1) u) → Took low r t u o
unfolding fold
took_one low r t u (Ok x) h s e p k = record {
  folds = λ rs.
      let a = s.states_size in let b = s.fragments_size in let q : flat u ≡ apply (flat t) r = p in
      grind (arith, nat_tests);
  skipped = λ l. absurd (omega arith);
  kept = λ l. subst (λ n. Kept n u) (omega arith) k;
}
took_one low r t u (Err f) h s e p k = λ rs. grind (arith, nat_tests)

same_tables : (t u v : PageTable) → SameTables t u → SameTables u v → SameTables t v
same_tables t u v a b = record {
  states = b.states ∙ a.states;
  fragments = b.fragments ∙ a.fragments;
  states_size = b.states_size ∙ a.states_size;
  fragments_size = b.fragments_size ∙ a.fragments_size;
}

-- a walk without its records
abbrev bare : Walked → Walked
bare w = record { records = []; current = w.current; held = w.held; left = w.left; fault = w.fault }

module _ {D B : Type 0} (notes : B → ℕ → Option Note) (stored : D → List ℕ) where
  abbrev ahead : LogIter D B → Walked
  ahead v = rest_of notes stored v

  -- some records came, and what is to come makes of the table now what all make of the table then
  pub record Folding (buffer : List ℕ) (body low : ℕ) (u v : LogIter D B) (t x : PageTable) : Type 0 where
    pub pages : folds low t (ahead u).records ≡ folds low x (ahead v).records
    pub ends : bare (ahead u) ≡ bare (ahead v)
    pub foldable : Foldable low x (ahead v).records
    pub sane : Sane notes stored buffer body v
    pub tables : SameTables t x

  pub folding_none : (buffer : List ℕ) (body low : ℕ) (v : LogIter D B) (t : PageTable) → Sane notes stored buffer body v → Foldable low t (ahead v).records → Folding buffer body low v v t t
  folding_none buffer body low v t s f =
      record { pages = refl; ends = refl; foldable = f; sane = s; tables = record { states = refl; fragments = refl; states_size = refl; fragments_size = refl } }

-- ---- one record
module _ (low : ℕ) (r : Record) (rs : List Record) (t : PageTable) (f : Foldable low t (r ∷ rs)) where
  pub kept_first : low ≤ r.lsn → Kept r.lsn t
  kept_first h = kept_up f.top r.lsn t (omega (arith, f.below, f.rises.0)) f.kept

  pub foldable_rest : (u : PageTable) → Goes low r t u → Foldable low u rs
  foldable_rest u g =
      ⊎_elim (λ (l : r.lsn < low). record { top = f.top; from = suc r.lsn; over = f.over; kept = subst (Kept f.top) (sym (g.skipped l)) f.kept; below = omega (arith, f.below, f.rises.0); rises = f.rises.2 })
      (λ (l : low ≤ r.lsn). record { top = suc r.lsn; from = suc r.lsn; over = f.over; kept = g.kept l; below = omega arith; rises = f.rises.2 })
      (cases_lt r.lsn low)

module _ {D B : Type 0} (notes : B → ℕ → Option Note) (stored : D → List ℕ) (a b : List ℕ) (n low : ℕ) (u v w : LogIter D B) (t x : PageTable) (d : Folding notes stored a n low u v t x) (o : Result (Option Record) Refusal) (i : Next notes stored b n v w (ended o)) where
  known : (q : Result (Option Record) Refusal) → o ≡ q → ahead notes stored v ≡ told_by (ended q) w.current (segment_of w.held) w.rest.now (ahead notes stored w)
  known q e = subst (λ q. ahead notes stored v ≡ told_by (ended q) w.current (segment_of w.held) w.rest.now (ahead notes stored w)) e i.turn

  -- a record came
  module _ (r : Record) (e : o ≡ Ok (Some r)) where
    yielded : ahead notes stored v ≡ more (r ∷ []) (ahead notes stored w)
    unfolding told_by
    yielded = known (Ok (Some r)) e

    records_are : (ahead notes stored v).records ≡ r ∷ (ahead notes stored w).records
    unfolding more
    records_are = ap (λ (q : Walked). q.records) yielded

    foldable_here : Foldable low x (r ∷ (ahead notes stored w).records)
    foldable_here = subst (Foldable low x) records_are d.foldable

    pub ready : low ≤ r.lsn → Kept r.lsn x
    ready = kept_first low r (ahead notes stored w).records x foldable_here

    pub folding_more : (m : ℕ) (y : PageTable) → m ≡ n → Goes low r x y → SameTables x y → Folding notes stored b m low u w t y
    unfolding more
    folding_more m y l g s = record {
      pages = d.pages ∙ ap (folds low x) records_are ∙ g.folds (ahead notes stored w).records;
      ends = d.ends ∙ ap bare yielded;
      foldable = foldable_rest low r (ahead notes stored w).records x foldable_here y g;
      sane = subst (λ k. Sane notes stored b k w) (sym l) i.sane;
      tables = same_tables t x y d.tables s;
    }

    pub folding_fewer : length (ahead notes stored w).records < length (ahead notes stored v).records
    folding_fewer = let k = ap (λ (q : List Record). length q) records_are in omega arith

    pub refused_here : (f : Refusal) (y : PageTable) → Took low r x y (Err f) → Err f ≡ fold_reply (folds low t (ahead notes stored u).records) (ahead notes stored u).fault
    unfolding fold_reply
    refused_here f y g = sym (ap (λ q. fold_reply q (ahead notes stored u).fault) (d.pages ∙ ap (folds low x) records_are ∙ g (ahead notes stored w).records))

  -- the walk is at its end
  abbrev end : Option Refusal → Walked
  end f = record { records = []; current = w.current; held = segment_of w.held; left = w.rest.now; fault = f }

  module _ (f : Option Refusal) (e : ahead notes stored v ≡ end f) where
    last_pages : folds low t (ahead notes stored u).records ≡ Ok (flat x)
    unfolding fold
    last_pages = d.pages ∙ ap (λ (q : Walked). folds low x q.records) e

    last_end : bare (ahead notes stored u) ≡ end f
    last_end = d.ends ∙ ap bare e

    last_reply : fold_reply (folds low t (ahead notes stored u).records) (ahead notes stored u).fault ≡ unless f tt
    unfolding fold_reply
    last_reply = ap (λ q. fold_reply q (ahead notes stored u).fault) last_pages ∙ ap (λ (q : Walked). unless q.fault tt) last_end

  pub folded_fault : (f : Refusal) → o ≡ Err f → Err f ≡ fold_reply (folds low t (ahead notes stored u).records) (ahead notes stored u).fault
  unfolding told_by unless
  folded_fault f e = sym (last_reply (Some f) (known (Err f) e))

  pub folded : o ≡ Ok None → Folded low t x (ahead notes stored u) (reached_by w)
  unfolding told_by
  folded e =
      let k = known (Ok None) e in
      let q = last_end None k in
      record {
        pages = last_pages None k;
        sound = ap (λ (q : Walked). q.fault) q;
        top = d.foldable.top;
        kept = d.foldable.kept;
        current = sym (ap (λ (q : Walked). q.current) q);
        held = sym (ap (λ (q : Walked). q.held) q);
        left = sym (ap (λ (q : Walked). q.left) q);
      }
