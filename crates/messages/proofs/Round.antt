-- A message that was written is the message that is read. Assumes nothing.
use Rattle.std.proofs.Common.{◌≡◌, ℕ, ◌+◌, ◌-◌, ◌%◌, ◌^◌, ◌<◌, ◌≤◌, Bool, true, false, ◌&&◌, ◌||◌, leb, List, ◌++◌, length, take, drop, replicate, Some, sym, refl, ap, ◌∙◌, ap₂, append_assoc, arith, length-append, take_at, drop_at, Ok}
use lib.Seq.{take-append-add}
use Rattle.std.proofs.lemmas.List.{length-take-le}
use Rattle.std.proofs.lemmas.Bool.{cond-true, le-leb, eq-eqb}
use Rattle.checksum.specs.Crc.{crc32}
use Rattle.codec.specs.Laws.{header_back, length-octets}
use Rattle.codec.proofs.Bodies.{length_header}
use Rattle.codec.proofs.Forms.{length-shortest}
use Rattle.codec.specs.Messages.{behind, message_header, MessageFits, read_message_header, message_sum, message_of, message}
use Rattle.codec.specs.Numbers.{octets}
use Rattle.codec.specs.Segments.{complement}
use Rattle.codec.specs.declared.message_header.MessageHeader.{MessageHeader}
use Rattle.device.specs.Reads.{begins}
use Rattle.layout.proofs.Powers.{sized}
use Rattle.layout.specs.Sizes.{is_segment_size}
use Rattle.layout.specs.declared.kind.MessageKind.{MessageKind}
use Rattle.messages.specs.Raw.{Raw, is_entry, ahead, known, word_in, decided, judged, raw_in, raw_at}
use Rattle.messages.specs.Told.{found_of, Stands}

length-message : (kind : MessageKind) (number page : ℕ) (body : List ℕ)
    → length (message kind number page body) ≡ length (message_header (message_of kind number page body)) + length body
unfolding message
length-message kind number page body = length-append (message_header (message_of kind number page body)) body

module _ (kind : MessageKind) (number page : ℕ) (body : List ℕ) (nf : number < 2 ^ 64) (pf : page < 2 ^ 64) (bf : length body < 2 ^ 64) where
  abbrev head : MessageHeader
  head = message_of kind number page body

  abbrev front : List ℕ
  front = message_header head

  abbrev found : Raw
  found = Ok (record { kind = kind; pid = page; len = length (message kind number page body); word = word_in body })

  front_short : length front ≤ 32
  front_short = omega (arith, length_header head, length-shortest (length body) bf, length-shortest number nf, length-shortest page pf)

  front_fits : MessageFits head
  front_fits = (omega arith, bf, nf, pf)

  summed : message_sum front body ≡ head.crc32
  summed = ap (λ x. complement (crc32 (body ++ x))) (drop_at (octets 4 head.crc32) (behind kind (length body) number page) 4 (length-octets 4 head.crc32))

  -- the header among the bytes read ahead
  read_front : (tail : List ℕ) → 128 ≤ length tail → read_message_header (take 128 (front ++ (body ++ tail))) ≡ Some (head, take (128 - length front) (body ++ tail))
  read_front tail l =
      let n : length front + (128 - length front) ≡ 128 = omega (arith, front_short) in
      ap read_message_header (ap (λ k. take k (front ++ (body ++ tail))) (sym n) ∙ take-append-add front (body ++ tail) (128 - length front))
      ∙ header_back head (take (128 - length front) (body ++ tail)) front_fits

  front_length : (tail : List ℕ) → 128 ≤ length tail → 128 - length (take (128 - length front) (body ++ tail)) ≡ length front
  front_length tail l =
      omega (arith, front_short, length-take-le (128 - length front) (body ++ tail) (omega (arith, length-append body tail)))

  whole_length : length (message kind number page body) ≡ length front + length body
  whole_length = length-message kind number page body

  decides : (tail : List ℕ) → decided head number (take (length front) (front ++ (body ++ tail))) (take (length body) (drop (length front) (front ++ (body ++ tail)))) ≡ found
  unfolding decided
  decides tail =
      let h = take_at front (body ++ tail) (length front) refl in
      let b = ap (take (length body)) (drop_at front (body ++ tail) (length front) refl) ∙ take_at body tail (length body) refl in
      ap₂ (λ x y. decided head number x y) h b
      ∙ cond-true _ _ _ (ap₂ ◌&&◌ (eq-eqb head.crc32 (message_sum front body) (sym summed)) (eq-eqb number number refl))
      ∙ ap (λ n. Ok (record { kind = kind; pid = page; len = n; word = word_in body })) (sym whole_length)

  judges : (size p have : ℕ) (tail : List ℕ) → p + length (message kind number page body) ≤ size → known kind ≡ true → length (message kind number page body) ≤ have
      → judged size number p have (front ++ (body ++ tail)) head (length front) ≡ found
  unfolding judged
  judges size p have tail s k v =
      let fits : leb (p + (length front + length body)) size ≡ true = le-leb _ _ (omega (arith, whole_length)) in
      let there : leb (length front + length body) have ≡ true = le-leb _ _ (omega (arith, whole_length)) in
      cond-true _ _ _ (ap₂ ◌&&◌ fits k) ∙ cond-true _ _ _ (ap (λ b. leb (length front + length body) 128 || b) there ∙ or_true (leb (length front + length body) 128)) ∙ decides tail
    where
      or_true : (b : Bool) → b || true ≡ true
      or_true true = refl
      or_true false = refl

  raw_round : (size first place : ℕ) (bytes before after : List ℕ) → bytes ≡ before ++ (message kind number page body ++ after) → place ≡ first + length before
      → is_entry size (place % size) ≡ true → place % size + length (message kind number page body) ≤ size → known kind ≡ true
      → raw_at size number first bytes place ≡ found
  unfolding raw_at ahead message
  raw_round size first place bytes before after e a i s k =
      let zeros : List ℕ = replicate 128 0 in
      let tail : List ℕ = after ++ zeros in
      let p = place % size in
      let have = first + length bytes - place in
      let long : 128 ≤ length tail = omega (arith, length-append after zeros) in
      let total : length bytes ≡ length before + (length (message kind number page body) + length after) =
      ap length e ∙ length-append before (message kind number page body ++ after) ∙ ap (λ n. length before + n) (length-append (message kind number page body) after)
      in
      let off : place - first ≡ length before = omega arith in
      let w : drop (place - first) bytes ++ zeros ≡ front ++ (body ++ tail) =
      ap₂ (λ n l. drop n l ++ zeros) off e
      ∙ ap (λ l. l ++ zeros) (drop_at before (message kind number page body ++ after) (length before) refl)
      ∙ append_assoc (front ++ body) after zeros ∙ append_assoc front body tail
      in
      let b : begins first bytes place ≡ true = ap₂ ◌&&◌ (le-leb first place (omega arith)) (le-leb place (first + length bytes) (omega arith)) in
      cond-true _ _ _ (ap₂ ◌&&◌ i b)
      ∙ ap (λ l. raw_in size number p have l (read_message_header (take 128 l))) w
      ∙ ap (λ o. raw_in size number p have (front ++ (body ++ tail)) o) (read_front tail long)
      ∙ ap (λ n. judged size number p have (front ++ (body ++ tail)) head n) (front_length tail long)
      ∙ judges size p have tail s k (omega arith)

pub message_round : (size number first place page : ℕ) (bytes body : List ℕ) (kind : MessageKind) → is_segment_size size ≡ true → number < 2 ^ 64
    → Stands size number first place bytes kind page body → raw_at size number first bytes place ≡ Ok (found_of kind page (length (message kind number page body)) body)
message_round size number first place page bytes body kind z nf s =
    raw_round kind number page body nf s.page-fits (omega (arith, s.fits, (sized size z).high, length-message kind number page body)) size first place bytes
    s.before s.after s.around s.at s.entry s.fits s.kind-known
