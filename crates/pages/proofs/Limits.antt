-- What records leave of pages stays within the tables. Assumes nothing.
use Rattle.std.proofs.Common.{◌≡◌, ℕ, ◌<◌, ◌≤◌, List, [], ◌∷◌, length, Ok, inl, inr, arith, length-append, length-set}
use lib.ListN.{length-replicate}
use Rattle.std.proofs.lemmas.Bool.Decides.{nat_tests}
use Rattle.std.proofs.lemmas.Bool.{cases_lt}
use Rattle.layout.specs.declared.kind.LogKind.{LogKind}
use Rattle.layout.specs.declared.kind.LogKind.TheVariants.{Replace, Link, Free}
use Rattle.messages.specs.declared.log_read.Record.{Record}
use Rattle.pages.specs.Pages.{Page, fragments, grown, applied, apply, verdict, fold}

-- a record is taken only where its page and all fragments have room
pub verdict_room : (most room : ℕ) (ps : List Page) (r : Record) → verdict most room ps r ≡ Ok tt → (r.pid < most) × (fragments (apply ps r) ≤ room)
unfolding verdict
verdict_room most room ps r e = (grind (arith, nat_tests), grind (arith, nat_tests))

applied-length : (most : ℕ) (ps : List Page) (r : Record) (k : LogKind) → length ps ≤ most → r.pid < most → length (applied ps r k) ≤ most
unfolding applied grown
applied-length most ps r Replace a b = simp (length-set, length-append, length-replicate) (omega arith)
applied-length most ps r Free a b = simp (length-set, length-append, length-replicate) (omega arith)
applied-length most ps r Link a b = simp length-set a

pub apply-length : (most : ℕ) (ps : List Page) (r : Record) → length ps ≤ most → r.pid < most → length (apply ps r) ≤ most
unfolding apply
apply-length most ps r a b = applied-length most ps r r.kind a b

pub fold-within : (most room low : ℕ) (ps qs : List Page) (rs : List Record) → length ps ≤ most → fragments ps ≤ room → fold most room low ps rs ≡ Ok qs
    → (length qs ≤ most) × (fragments qs ≤ room)
unfolding fold
fold-within most room low ps qs [] a b e = let same : ps ≡ qs = cc in rw (← same) (a, b)
fold-within most room low ps qs (r ∷ rs) a b e =
    elim (cases_lt r.lsn low) [
      | inl h ↦ (let f : fold most room low ps rs ≡ Ok qs = grind (arith, nat_tests) in fold-within most room low ps qs rs a b f)
      | inr h ↦ (
          let f : fold most room low (apply ps r) rs ≡ Ok qs = grind (arith, nat_tests) in
          let v : verdict most room ps r ≡ Ok tt = grind (arith, nat_tests) in
          let w = verdict_room most room ps r v in
          fold-within most room low (apply ps r) qs rs (apply-length most ps r a w.0) w.1 f)
    ]
