-- A file that is added is held, and the others stay. Assumes nothing.
use Rattle.std.proofs.Common.{◌≡◌, ℕ, ◌+◌, ◌-◌, ◌≤◌, eqb, List, [], ◌∷◌, ◌++◌, length, take, drop, Some, None, Option, sym, refl, ap, ◌∙◌, subst, ⊎_elim, append_assoc, arith, take_at, drop_at}
use lib.Seq.{sets, sets-eq, length-sets, take-append-le, drop-append-le}
use Rattle.std.proofs.lemmas.List.{drop-take, take-take, length-take-le, length-drop}
use Rattle.std.proofs.lemmas.Bool.{cond-true, cond-false, cases_eq, eq-eqb, ne_eqb}
use Rattle.std.specs.Option.{option_map}
use Rattle.tables.specs.Entries.{find, put}
use Rattle.tables.specs.declared.entry.Entry.{Entry}
use Rattle.tables.proofs.Puts.{find-put, find-put_other}
use Rattle.blobs.specs.Adding.{extent_at}
use Rattle.blobs.specs.Banks.{cut, Files, file_of, Holds}
use Rattle.blobs.specs.declared.note.Extent.{Extent}

-- ---- bytes written behind those in use
pub cut_here : (bytes file : List ℕ) (at : ℕ) → at + length file ≤ length bytes → take (length file) (drop at (sets bytes at file)) ≡ file
cut_here bytes file at h =
    let front = length-take-le at bytes (omega arith) in
    ap (λ x. take (length file) (drop at x)) (sets-eq file bytes at h ∙ append_assoc (take at bytes) file (drop (at + length file) bytes))
    ∙ ap (take (length file)) (drop_at (take at bytes) (file ++ drop (at + length file) bytes) at front)
    ∙ take_at file (drop (at + length file) bytes) (length file) refl

pub cut_below : (bytes file : List ℕ) (at : ℕ) (e : Extent) → at + length file ≤ length bytes → e.start + e.len ≤ at → cut (sets bytes at file) e ≡ cut bytes e
cut_below bytes file at e h l =
    let front = length-take-le at bytes (omega arith) in
    let rest = file ++ drop (at + length file) bytes in
    let inner : drop e.start (take at bytes ++ rest) ≡ drop e.start (take at bytes) ++ rest = drop-append-le e.start (take at bytes) rest (omega arith) in
    let long : e.len ≤ length (drop e.start (take at bytes)) = simp length-drop (omega (arith, front)) in
    let split : e.start + (at - e.start) ≡ at = omega arith in
    ap (λ x. cut x e) (sets-eq file bytes at h ∙ append_assoc (take at bytes) file (drop (at + length file) bytes))
    ∙ ap (take e.len) inner
    ∙ take-append-le e.len (drop e.start (take at bytes)) rest long
    ∙ ap (λ n. take e.len (drop e.start (take n bytes))) (sym split)
    ∙ ap (take e.len) (drop-take e.start (at - e.start) bytes)
    ∙ take-take e.len (at - e.start) (drop e.start bytes) (omega arith)

-- ---- what is held at first, and then
pub holds_none : (bytes : List ℕ) → Holds 0 bytes [] []
unfolding find file_of
holds_none bytes = record { files = λ q. refl; inside = λ q e f. let z : ◌≡◌ {A = ℕ} 0 1 = cc in absurd (omega arith); room = omega arith }

module _ (used p : ℕ) (bytes file : List ℕ) (es : List (Entry Extent)) (fs : Files) (room : used + length file ≤ length bytes) (h : Holds used bytes es fs) where
  x : Entry Extent
  x = extent_at p used (length file)

  kept : (o : Option Extent) → ((e : Extent) → o ≡ Some e → e.start + e.len ≤ used) → option_map (cut (sets bytes used file)) o ≡ option_map (cut bytes) o
  kept None f = refl
  kept (Some e) f = ap Some (cut_below bytes file used e room (f e refl))

  files : (q : ℕ) → option_map (cut (sets bytes used file)) (find q (put x es)) ≡ file_of q ((p, file) ∷ fs)
  unfolding file_of x
  files q =
      ⊎_elim
      (λ (e : p ≡ q).
      ap (option_map (cut (sets bytes used file))) (subst (λ k. find k (put x es) ≡ Some x.value) e (find-put x es))
      ∙ ap Some (cut_here bytes file used room) ∙ sym (cond-true (eqb p q) _ _ (eq-eqb p q e)))
      (λ (n : p ≡ q → ⊥).
      ap (option_map (cut (sets bytes used file))) (find-put_other x q es n) ∙ kept (find q es) (h.inside q) ∙ h.files q ∙ sym (cond-false (eqb p q) _ _ (ne_eqb p q n)))
      (cases_eq p q)

  inside : (q : ℕ) (e : Extent) → find q (put x es) ≡ Some e → e.start + e.len ≤ used + length file
  unfolding x
  inside q e f =
      ⊎_elim
      (λ (i : p ≡ q).
      let same : ◌≡◌ {A = Option Extent} (Some x.value) (Some e) = sym (subst (λ k. find k (put x es) ≡ Some x.value) i (find-put x es)) ∙ f in
      let v : x.value ≡ e = cc in
      omega (arith, ap (λ y. y.start) v, ap (λ y. y.len) v))
      (λ (n : p ≡ q → ⊥). omega (arith, h.inside q e (sym (find-put_other x q es n) ∙ f)))
      (cases_eq p q)

  pub holds_more : (bytes' : List ℕ) (es' : List (Entry Extent)) → bytes' ≡ sets bytes used file → es' ≡ put (extent_at p used (length file)) es
      → Holds (used + length file) bytes' es' ((p, file) ∷ fs)
  unfolding x
  holds_more bytes' es' b e =
      subst (λ (l : List ℕ). Holds (used + length file) l es' ((p, file) ∷ fs)) (sym b)
      (subst (λ (l : List (Entry Extent)). Holds (used + length file) (sets bytes used file) l ((p, file) ∷ fs)) (sym e)
      (record { files = files; inside = inside; room = omega (arith, length-sets bytes used file) }))
