-- A body of eight bytes as a field. Assumes nothing.
use Rattle.std.proofs.Common.{◌≡◌, ℕ, List, length, drop, Some, None, sym, ap, ◌∙◌, arith}
use Rattle.std.proofs.lemmas.List.{take_all}
use Rattle.std.proofs.lemmas.Bool.{cond-true, le-leb, eq-eqb}
use Rattle.codec.specs.Fields.{read_word}
use Rattle.codec.specs.Numbers.{little, field}
use Rattle.codec.specs.Serial.{next}
use Rattle.codec.specs.declared.word.Word.{Word}
use Rattle.codec.proofs.Octets.{some_is}
use Rattle.messages.specs.Raw.{word_in}

-- eight bytes are read whole
word_read : (body : List ℕ) → length body ≡ 8 → read_word body ≡ Some (record { bits = little body }, drop 8 body)
unfolding field
word_read body h =
    ap (λ o. next o λ n rest. Some (record { bits = n }, rest)) (cond-true _ _ _ (le-leb 8 (length body) (omega arith)))
    ∙ ap (λ l. Some (record { bits = little l }, drop 8 body)) (take_all 8 body (omega arith))

pub word_is : (body rest : List ℕ) (w : Word) → length body ≡ 8 → Some (w, rest) ≡ read_word body → Some w ≡ word_in body
unfolding word_in
word_is body rest w h e =
    let v = some_is (w, rest) (record { bits = little body }, drop 8 body) (e ∙ word_read body h) in
    ap (λ p. Some p.0) v ∙ sym (cond-true _ _ _ (eq-eqb (length body) 8 h))

pub word_none : (body : List ℕ) → length body ≡ 8 → None ≡ read_word body → None ≡ word_in body
word_none body h e = let r = word_read body h in let z : ◌≡◌ {A = ℕ} 0 1 = cc in absurd (omega arith)
