-- The literal names by their bytes.
use Rattle.std.proofs.Common.{◌≡◌, ℕ, ◌+◌, ◌≤◌, true, false, cond, List, ◌∷◌, length, drop, get_or, ap, ◌∙◌, arith}
use Rattle.json.specs.Token.{bad, boolean, null}
use Rattle.json.specs.Word.{ends_word, word}
use Rattle.json.specs.Lex.{between, in_word, token, lex}
use Rattle.lines_json.specs.Inside.Contents.{is_word_end}
use Rattle.lines_json.specs.Standing.{IsTokenAt}
use Rattle.lines_json.proofs.Fronts.{one_byte, four_bytes}
use Rattle.lines_json.proofs.WordEnds.{ends_word-at, word_ends}

-- ---- the three names

lex-true : (t : List ℕ) → ends_word t ≡ true → lex between (116 ∷ 114 ∷ 117 ∷ 101 ∷ t) ≡ token (boolean true) ∷ lex between t
unfolding lex word
lex-true t ends = ap (λ b. token (cond b (boolean true) bad) ∷ lex in_word t) ends ∙ ap (λ ls. token (boolean true) ∷ ls) (word_ends t ends)

lex-false : (t : List ℕ) → ends_word t ≡ true → lex between (102 ∷ 97 ∷ 108 ∷ 115 ∷ 101 ∷ t) ≡ token (boolean false) ∷ lex between t
unfolding lex word
lex-false t ends = ap (λ b. token (cond b (boolean false) bad) ∷ lex in_word t) ends ∙ ap (λ ls. token (boolean false) ∷ ls) (word_ends t ends)

lex-null : (t : List ℕ) → ends_word t ≡ true → lex between (110 ∷ 117 ∷ 108 ∷ 108 ∷ t) ≡ token null ∷ lex between t
unfolding lex word
lex-null t ends = ap (λ b. token (cond b null bad) ∷ lex in_word t) ends ∙ ap (λ ls. token null ∷ ls) (word_ends t ends)

module _ (text : List ℕ) (at : ℕ) where
  -- these four bytes stand at a place
  abbrev AreFour : (a b c d : ℕ) → Type 0
  AreFour a b c d = (get_or text at 0 ≡ a) × (get_or text (at + 1) 0 ≡ b) × (get_or text (at + 2) 0 ≡ c) × (get_or text (at + 3) 0 ≡ d)

  begins_with : (a b c d : ℕ) → at + 4 ≤ length text → AreFour a b c d → drop at text ≡ a ∷ b ∷ c ∷ d ∷ drop (at + 4) text
  begins_with a b c d room e = four_bytes text at room ∙ (λ i. (e.0 i) ∷ (e.1 i) ∷ (e.2 i) ∷ (e.3 i) ∷ drop (at + 4) text)

  abbrev Ends : ℕ → Type 0
  Ends stop = is_word_end (get_or text stop 32) ≡ true

  pub has-true : at + 4 ≤ length text → AreFour 116 114 117 101 → Ends (at + 4) → IsTokenAt text at (at + 4) (boolean true)
  has-true room e ends = record {
    later = omega arith;
    within = room;
    stands = ap (lex between) (begins_with 116 114 117 101 room e) ∙ lex-true (drop (at + 4) text) (ends_word-at text (at + 4) ends);
  }

  pub has-false : at + 5 ≤ length text → AreFour 102 97 108 115 → get_or text (at + 4) 0 ≡ 101 → Ends (at + 5) → IsTokenAt text at (at + 5) (boolean false)
  has-false room e last ends = record {
    later = omega arith;
    within = room;
    stands =
        ap (lex between) (begins_with 102 97 108 115 (omega arith) e ∙ ap (λ t. 102 ∷ 97 ∷ 108 ∷ 115 ∷ t) (one_byte text (at + 4) (at + 5) (omega arith) (omega arith) ∙ ap (λ x. x ∷ drop (at + 5) text) last))
        ∙ lex-false (drop (at + 5) text) (ends_word-at text (at + 5) ends);
  }

  pub has-null : at + 4 ≤ length text → AreFour 110 117 108 108 → Ends (at + 4) → IsTokenAt text at (at + 4) null
  has-null room e ends = record {
    later = omega arith;
    within = room;
    stands = ap (lex between) (begins_with 110 117 108 108 room e) ∙ lex-null (drop (at + 4) text) (ends_word-at text (at + 4) ends);
  }
