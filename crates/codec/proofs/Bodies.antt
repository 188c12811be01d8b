-- Messages and their headers. Assumes nothing.
use Rattle.std.specs.Prelude.{◌≡◌, ℕ, ◌+◌, ◌-◌, ◌≤◌, List, [], ◌∷◌, ◌++◌, length, take, Some}
use Rattle.std.proofs.Common.{sym, ap, ap₂, ◌∙◌, append_assoc, arith, length-append, drop_at}
use Rattle.std.specs.Int.{to_le_bytes, w32}
use Rattle.std.proofs.lemmas.List.Edits.{sets}
use Rattle.checksum.specs.Crc.{crc32}
use Rattle.layout.specs.Kinds.{kind_number}
use Rattle.codec.specs.Laws.{header_back, length-octets}
use Rattle.codec.specs.Messages.{behind, message_header, MessageFits, read_message_header, message_sum, message_of, message, written}
use Rattle.codec.specs.Numbers.{octets, shortest}
use Rattle.codec.specs.Segments.{complement}
use Rattle.layout.specs.declared.kind.MessageKind.{MessageKind}
use Rattle.codec.specs.declared.message.Message.{Message}
use Rattle.codec.specs.declared.message_header.MessageHeader.{MessageHeader}
use Rattle.codec.proofs.Forms.{length-shortest}
use Rattle.codec.proofs.Octets.{le_octets_4}
use Rattle.codec.proofs.Writes.{sets_then, take_front}

-- ---- lengths
pub length_behind : (k : MessageKind) (len segment page : ℕ)
    → length (behind k len segment page) ≡ 1 + length (shortest len) + length (shortest segment) + length (shortest page)
length_behind k len segment page = simp length-append (omega arith)

pub length_header : (h : MessageHeader)
    → length (message_header h) ≡ 5 + length (shortest h.len) + length (shortest h.segment_number) + length (shortest h.pid)
length_header h =
    length-append (octets 4 h.crc32) (behind h.kind h.len h.segment_number h.pid)
    ∙ omega (arith, length-octets 4 h.crc32, length_behind h.kind h.len h.segment_number h.pid)

pub header_short : (h : MessageHeader) → MessageFits h → length (message_header h) ≤ 32
header_short h v = omega (arith, length_header h, length-shortest h.len v.1, length-shortest h.segment_number v.2, length-shortest h.pid v.3)

-- ---- writing
pub put_header : (h : MessageHeader) (l m1 m2 m3 m4 m5 bs : List ℕ) (at a1 a2 a3 a4 k : ℕ) → bs ≡ to_le_bytes w32 h.crc32 → k ≡ kind_number h.kind
    → m1 ≡ sets l at bs → a1 ≡ at + length bs → m2 ≡ sets m1 a1 (k ∷ []) → a2 ≡ a1 + 1
    → m3 ≡ sets m2 a2 (shortest h.len) → a3 ≡ a2 + length (shortest h.len)
    → m4 ≡ sets m3 a3 (shortest h.segment_number) → a4 ≡ a3 + length (shortest h.segment_number)
    → m5 ≡ sets m4 a4 (shortest h.pid) → m5 ≡ sets l at (message_header h)
put_header h l m1 m2 m3 m4 m5 bs at a1 a2 a3 a4 k f g e1 n1 e2 n2 e3 n3 e4 n4 e5 =
    let a = shortest h.len in
    let b = shortest h.segment_number in
    let c = shortest h.pid in
    sets_then l m1 m5 at a1 bs (k ∷ [] ++ (a ++ (b ++ c))) e1 n1
    (sets_then m1 m2 m5 a1 a2 (k ∷ []) (a ++ (b ++ c)) e2 n2
    (sets_then m2 m3 m5 a2 a3 a (b ++ c) e3 n3
    (sets_then m3 m4 m5 a3 a4 b c e4 n4 e5)))
    ∙ ap₂ (λ x y. sets l at (x ++ (y ∷ [] ++ (a ++ (b ++ c))))) (le_octets_4 h.crc32 bs f) g

-- ---- whole messages
abbrev pub unsummed : MessageKind → ℕ → ℕ → ℕ → MessageHeader
unsummed kind len segment page = record { crc32 = 0; kind = kind; len = len; segment_number = segment; pid = page }

-- the header written with no checksum yet is summed from its fifth byte
pub header-summed : (kind : MessageKind) (segment page crc end : ℕ) (body l m : List ℕ)
    → length (message_header (unsummed kind (length body) segment page)) ≤ length l
    → m ≡ sets l 0 (message_header (unsummed kind (length body) segment page))
    → end ≡ 0 + length (message_header (unsummed kind (length body) segment page))
    → crc ≡ message_sum (take (end - 0) m) body
    → record { crc32 = crc; kind = kind; len = length body; segment_number = segment; pid = page } ≡ message_of kind segment page body
header-summed kind segment page crc end body l m h e n s =
    let t = behind kind (length body) segment page in
    let n0 : end - 0 ≡ length (message_header (unsummed kind (length body) segment page)) = omega arith in
    let F : ℕ → MessageHeader = λ c. record { crc32 = c; kind = kind; len = length body; segment_number = segment; pid = page } in
    ap F (s ∙ ap (λ x. message_sum x body) (take_front l m _ (end - 0) e n0 h) ∙ ap (λ x. complement (crc32 (body ++ x))) (drop_at (octets 4 0) t 4 (length-octets 4 0)))

pub length-written : (m : Message) (h : MessageHeader) → h ≡ message_of m.kind m.segment_number m.pid m.body.now
    → length (written m) ≡ length (message_header h) + length m.body.now
unfolding message
length-written m h e =
    length-append (message_header (message_of m.kind m.segment_number m.pid m.body.now)) m.body.now
    ∙ ap (λ x. length (message_header x) + length m.body.now) (sym e)

pub put_written : (m : Message) (h : MessageHeader) (l m1 m2 : List ℕ) (at a : ℕ)
    → h ≡ message_of m.kind m.segment_number m.pid m.body.now
    → m1 ≡ sets l at (message_header h) → a ≡ at + length (message_header h) → m2 ≡ sets m1 a m.body.now → m2 ≡ sets l at (written m)
unfolding message
put_written m h l m1 m2 at a e p q r =
    sets_then l m1 m2 at a (message_header h) m.body.now p q r ∙ ap (λ x. sets l at (message_header x ++ m.body.now)) e

-- a written message is read as its header, then its body
pub message_back : (m : Message) (h : MessageHeader) (rest : List ℕ) → h ≡ message_of m.kind m.segment_number m.pid m.body.now
    → MessageFits h → read_message_header (written m ++ rest) ≡ Some (h, m.body.now ++ rest)
unfolding message
message_back m h rest e v =
    ap read_message_header (append_assoc (message_header (message_of m.kind m.segment_number m.pid m.body.now)) m.body.now rest)
    ∙ ap (λ x. read_message_header (message_header x ++ (m.body.now ++ rest))) (sym e) ∙ header_back h (m.body.now ++ rest) v
