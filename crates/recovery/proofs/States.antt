-- Turns, on the state of a walk. Assumes nothing.
use Rattle.std.proofs.Common.{◌≡◌, ℕ, suc, Bor, [], ◌+◌, ◌-◌, ◌^◌, ◌<◌, ◌≤◌, true, false, List, ◌∷◌, length, take, Some, None, Ok, Err, Option, Result, sym, refl, ap, ◌∙◌, subst, arith}
use Rattle.std.specs.List.{All}
use Rattle.std.specs.declared.ops.ControlFlow.TheVariants.{Continue, Break}
use Rattle.blobs.specs.declared.note.Note.{Note}
use Rattle.layout.proofs.Powers.{sized}
use Rattle.layout.specs.Sizes.{is_segment_size}
use Rattle.messages.proofs.Spans.{Span}
use Rattle.messages.specs.Raw.{is_entry}
use Rattle.messages.specs.declared.log_read.Record.{Record}
use Rattle.refusals.specs.declared.refusal.Refusal.{Refusal}
use Rattle.scan.specs.Order.{Segment}
use Rattle.recovery.specs.Small.{Small}
use Rattle.recovery.specs.State.{Step, told_by, segment_of, rest, spare, Less, rest_of, Holds, HeldWell, Sane, Going, Turned, passed}
use Rattle.recovery.specs.declared.course.Held.{Held}
use Rattle.recovery.specs.declared.iterator.LogIter.{LogIter}
use Rattle.walks.specs.Walk.{past, turn_of, read_in, Walked, segment_bytes}
use Rattle.walks.specs.declared.turn.Turn.{Turn}
use Rattle.walks.specs.declared.turn.Turn.TheVariants.{Yield, Pass, Release, Stop}
use Rattle.walks.proofs.Turns.{Spans, turn-spans, entry_in}
use Rattle.recovery.proofs.Rests.{t-out, t-past, t-yield, t-pass, t-release, t-stop, t-fail, w-none, w-past, w-take}

module _ {D B : Type 0} (notes : B → ℕ → Option Note) (stored : D → List ℕ) where
  -- a walk that lets its segment go
  abbrev pub out : LogIter D B → LogIter D B
  out v = record { course = v.course; rest = v.rest; held = None; current = v.current }

  module _ (buffer : List ℕ) (body : ℕ) (v : LogIter D B) (ok : Sane notes stored buffer body v) where
    abbrev todo : Option Held → Option ℕ → List Segment → Walked
    todo x c ss = rest (notes v.course.source.now) (stored v.course.device.now) v.course.size v.course.limit v.course.last x c ss

    -- the walk ends, and all is as it was
    done : (x : Option Held) (r : Step) → Less r v v → v.held ≡ x → ((w : Walked) → todo x v.current v.rest.now ≡ told_by r v.current (segment_of x) v.rest.now w)
        → Turned notes stored buffer body v v r
    done x r l e t = record {
      next = record {
        turn = ap (λ y. todo y v.current v.rest.now) e ∙ t (rest_of notes stored v) ∙ ap (λ y. told_by r v.current (segment_of y) v.rest.now (rest_of notes stored v)) (sym e);
        sane = ok;
        same = refl;
      };
      less = l;
    }

    -- ---- a segment is held
    module _ (h : Held) (e : v.held ≡ Some h) where
      abbrev turn : Result Turn Refusal
      turn = turn_of v.course.limit v.course.last (read_in (notes v.course.source.now) v.course.size (stored v.course.device.now) h.segment h.progress)

      pub holds : Holds notes stored buffer v h
      holds = subst (HeldWell notes stored buffer v) e ok.held

      as-held : rest_of notes stored v ≡ todo (Some h) v.current v.rest.now
      as-held = ap (λ x. todo x v.current v.rest.now) e

      spare_is : spare v.course.size v.held ≡ 1 + (v.course.size - h.progress)
      spare_is = ap (spare v.course.size) e

      -- the segment is let go
      gone : todo (Some h) v.current v.rest.now ≡ todo None v.current v.rest.now → Turned notes stored buffer body v (out v) (Ok (Continue tt))
      unfolding told_by
      gone t = record {
        next = record { turn = as-held ∙ t; sane = record { long = ok.long; room = ok.room; segments = ok.segments; held = tt }; same = refl };
        less = omega (arith, spare_is);
      }

      sane_passed : (n : ℕ) → h.progress + n ≤ v.course.size → Sane notes stored buffer body (passed v h n)
      sane_passed n l = record {
        long = ok.long;
        room = ok.room;
        segments = ok.segments;
        held = record { current = refl; within = l; small = holds.small; have = holds.have; bytes = holds.bytes };
      }

      pub m-out : is_entry v.course.size h.progress ≡ false → Turned notes stored buffer body v (out v) (Ok (Continue tt))
      m-out f = gone (t-out (notes v.course.source.now) v.course.size (stored v.course.device.now) v.course.limit v.course.last h.segment holds.small.aligned h.have h.progress v.current v.rest.now f holds.current)

      module _ (f : is_entry v.course.size h.progress ≡ true) where
        pub m-past : past (h.segment.key + h.progress) v.course.limit ≡ true → Turned notes stored buffer body v v (Ok (Break None))
        m-past u =
            done (Some h) (Ok (Break None)) tt e
            (λ w. t-past (notes v.course.source.now) v.course.size (stored v.course.device.now) v.course.limit v.course.last h.segment holds.small.aligned h.have h.progress v.current v.rest.now w f u holds.current)

        module _ (z : is_segment_size v.course.size ≡ true) (u : past (h.segment.key + h.progress) v.course.limit ≡ false) where
          spans : Spans v.course.size h.progress turn
          spans =
              turn-spans (notes v.course.source.now) v.course.size (stored v.course.device.now) v.course.limit v.course.last h.segment holds.small.aligned h.progress
              (omega (arith, entry_in v.course.size h.progress f))

          -- the sums stay within 64 bits
          fits : (n : ℕ) → Span v.course.size h.progress n → (h.progress + n < 2 ^ 64) × (h.segment.key + (h.progress + n) < 2 ^ 64)
          fits n sp = (omega (arith, sp.within, (sized v.course.size z).high), omega (arith, sp.within, holds.small.lsn))

          pub yield-fits : (r : Record) → turn ≡ Ok (Yield r) → (h.progress + r.len < 2 ^ 64) × (h.segment.key + (h.progress + r.len) < 2 ^ 64)
          yield-fits r t = fits r.len (subst (Spans v.course.size h.progress) t spans)

          pub pass_fits : (n : ℕ) → turn ≡ Ok (Pass n) → (h.progress + n < 2 ^ 64) × (h.segment.key + (h.progress + n) < 2 ^ 64)
          pass_fits n t = fits n (subst (Spans v.course.size h.progress) t spans)

          pub m-yield : (r : Record) → turn ≡ Ok (Yield r) → Turned notes stored buffer body v (passed v h r.len) (Ok (Break (Some r)))
          m-yield r t =
              let sp = subst (Spans v.course.size h.progress) t spans in
              record {
                next = record {
                  turn = as-held
                      ∙ t-yield (notes v.course.source.now) v.course.size (stored v.course.device.now) v.course.limit v.course.last h.segment holds.small.aligned h.have h.progress v.current v.rest.now f u r (h.progress + r.len) (Some (h.segment.key + (h.progress + r.len))) t refl;
                  sane = sane_passed r.len sp.within;
                  same = refl;
                };
                less = tt;
              }

          pub m-pass : (n : ℕ) → turn ≡ Ok (Pass n) → Turned notes stored buffer body v (passed v h n) (Ok (Continue tt))
          unfolding told_by
          m-pass n t =
              let sp = subst (Spans v.course.size h.progress) t spans in
              record {
                next = record {
                  turn = as-held
                      ∙ t-pass (notes v.course.source.now) v.course.size (stored v.course.device.now) v.course.limit v.course.last h.segment holds.small.aligned h.have h.progress v.current v.rest.now f u n (h.progress + n) (Some (h.segment.key + (h.progress + n))) t refl;
                  sane = sane_passed n sp.within;
                  same = refl;
                };
                less = omega (arith, spare_is, sp.some, sp.within);
              }

          pub m-release : turn ≡ Ok Release → Turned notes stored buffer body v (out v) (Ok (Continue tt))
          m-release t =
              gone (t-release (notes v.course.source.now) v.course.size (stored v.course.device.now) v.course.limit v.course.last h.segment holds.small.aligned h.have h.progress v.current v.rest.now f u t holds.current)

          pub m-stop : turn ≡ Ok Stop → Turned notes stored buffer body v v (Ok (Break None))
          m-stop t =
              done (Some h) (Ok (Break None)) tt e
              (λ w. t-stop (notes v.course.source.now) v.course.size (stored v.course.device.now) v.course.limit v.course.last h.segment holds.small.aligned h.have h.progress v.current v.rest.now f u w t holds.current)

          pub m-fail : (x : Refusal) → turn ≡ Err x → Turned notes stored buffer body v v (Err x)
          m-fail x t =
              done (Some h) (Err x) tt e
              (λ w. t-fail (notes v.course.source.now) v.course.size (stored v.course.device.now) v.course.limit v.course.last h.segment holds.small.aligned h.have h.progress v.current v.rest.now f u x w t holds.current)

    -- ---- no segment is held
    module _ (e : v.held ≡ None) where
      pub e-none : length v.rest.now ≡ 0 → Turned notes stored buffer body v v (Ok (Break None))
      e-none z =
          done None (Ok (Break None)) tt e
          (λ w. w-none (notes v.course.source.now) v.course.size (stored v.course.device.now) v.course.limit v.course.last v.current v.rest.now w (none_left v.rest.now z))
        where
          none_left : (l : List Segment) → length l ≡ 0 → l ≡ []
          none_left [] z = refl
          none_left (x ∷ l) z = absurd (omega arith)

      pub e-past : (s : Segment) (ss : List Segment) → v.rest.now ≡ s ∷ ss → past s.key v.course.limit ≡ true → Turned notes stored buffer body v v (Ok (Break None))
      e-past s ss i u =
          done None (Ok (Break None)) tt e
          (λ w. subst (λ (l : List Segment). todo None v.current l ≡ told_by (Ok (Break None)) v.current None l w) (sym i)
          (w-past (notes v.course.source.now) v.course.size (stored v.course.device.now) v.course.limit v.course.last v.current s ss w u))

      -- a segment is taken, and its bytes stand at the front of the buffer now
      abbrev pub taken : Segment → Bor (List Segment) → ℕ → LogIter D B
      taken s others n = record { course = v.course; rest = others; held = Some (record { segment = s; have = n; progress = 20 }); current = Some (s.key + 20) }

      module _ (s : Segment) (others : Bor (List Segment)) (i : v.rest.now ≡ s ∷ others.now) where
        smalls : All (Small v.course.size) (s ∷ others.now)
        smalls = subst (All (Small v.course.size)) i ok.segments

        pub e-small : Small v.course.size s
        e-small = smalls 0 s (omega arith)

        pub e-take : (now : List ℕ) (n : ℕ) → is_segment_size v.course.size ≡ true → past s.key v.course.limit ≡ false → length now ≡ length buffer → n ≤ length now
            → take n now ≡ segment_bytes v.course.size (stored v.course.device.now) s.value → Turned notes stored now body v (taken s others n) (Ok (Continue tt))
        unfolding told_by
        e-take now n z u l w b = record {
          next = record {
            turn = ap (λ y. todo y v.current v.rest.now) e ∙ ap (todo None v.current) i
                ∙ w-take (notes v.course.source.now) v.course.size (stored v.course.device.now) v.course.limit v.course.last v.current s others.now n (Some (s.key + 20)) u;
            sane = record {
              long = omega (arith, ok.long);
              room = ok.room;
              segments = λ k d h. smalls (suc k) d (omega arith);
              held = record { current = refl; within = omega (arith, (sized v.course.size z).low); small = e-small; have = w; bytes = b };
            };
            same = refl;
          };
          less = let none : spare v.course.size v.held ≡ 0 = ap (spare v.course.size) e in omega (arith, ap length i, (sized v.course.size z).high);
        }

  -- ---- turns one after another
  pub to_more : (a b : List ℕ) (n m : ℕ) (u v w : LogIter D B) (r : Step) → Going notes stored a n u v → Turned notes stored b n v w r → r ≡ Ok (Continue tt) → m ≡ n → Going notes stored b m u w
  unfolding told_by
  to_more a b n m u v w r g t e l = record {
    left = g.left ∙ t.next.turn ∙ ap (λ x. told_by x w.current (segment_of w.held) w.rest.now (rest_of notes stored w)) e;
    sane = subst (λ k. Sane notes stored b k w) (sym l) t.next.sane;
    same = t.next.same ∙ g.same;
  }
