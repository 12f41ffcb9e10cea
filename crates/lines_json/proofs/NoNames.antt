-- Where no literal name stands: what its token would need.
use Rattle.std.proofs.Common.{◌≡◌, ℕ, ◌+◌, ◌-◌, ◌<◌, ◌≤◌, ◌&&◌, ◌==◌, nat_eq, Bool, true, false, cond, List, ◌∷◌, ◌++◌, length, take, drop, get_or, Option, Some, None, ◌⊎◌, inl, inr, refl, sym, ap, ◌∙◌, subst, arith, length-drop, add-zero}
use Rattle.std.proofs.lemmas.Bool.{and_parts, ne_eqb, false≢true, true≢false}
use Rattle.std.proofs.lemmas.Bool.Decides.{Decides-eqb}
use Rattle.std.proofs.lemmas.List.{drop_more, drop-drop, get_or-drop}
use Rattle.std.proofs.lemmas.Slice.Eq.{starts_is}
use Rattle.std.specs.List.{starts_with}
use Rattle.json.specs.Ascii.{true_text, false_text, null_text}
use Rattle.json.specs.Lex.{Lexeme, Mode, token, comma, colon, quote, backslash, operator, space, other, between, lex, lex_byte, string_token}
use Rattle.json.specs.Text.{content, plain}
use Rattle.json.specs.Token.{Token, bad, begin_array, begin_object, boolean, end_array, end_object, null, number}
use Rattle.json.specs.Word.{after_number, ends_word, head, is_operator, is_space, literal, number_before, word}
use Rattle.lines_json.specs.Inside.Contents.{is_word_end}
use Rattle.lines_json.specs.Standing.{IsTokenAt, lexemes}
use Rattle.lines_json.proofs.Lexemes.{before_end}
use Rattle.lines_json.proofs.WordEnds.{head-drop}

-- ---- the tokens of the names

-- the token of a literal name
is_name : Token → Bool
is_name null = true
is_name (boolean b) = true
is_name _ = false

-- such a token is first
names_first : List Lexeme → Bool
names_first (token t ∷ ls) = is_name t
names_first _ = false

-- a name stands first, and a word ends behind it
abbrev Begins : List ℕ → List ℕ → Type 0
Begins name t = (t ≡ name ++ drop (length name) t) × (ends_word (drop (length name) t) ≡ true)

-- the token is that of a name that stands first
abbrev IsNamed : Token → List ℕ → Type 0
IsNamed w t = ((w ≡ boolean true) × Begins true_text t) ⊎ (((w ≡ boolean false) × Begins false_text t) ⊎ ((w ≡ null) × Begins null_text t))

-- ---- what a word is

begins : (name t : List ℕ) → (starts_with nat_eq t name && ends_word (drop (length name) t)) ≡ true → Begins name t
begins name t h =
    let both = and_parts (starts_with nat_eq t name) (ends_word (drop (length name) t)) h in
    ((starts_is Decides-eqb t name (starts_with nat_eq t name) refl).0 both.0, both.1)

unnamed : (w : Token) → is_name w ≡ true → bad ≡ w → ⊥
unfolding is_name
unnamed w h e = false≢true (ap is_name e ∙ h)

of_literal : (b : Bool) (name w : Token) → is_name w ≡ true → cond b name bad ≡ w → (w ≡ name) × (b ≡ true)
of_literal true name w h e = (sym e, refl)
of_literal false name w h e = absurd (unnamed w h e)

of_number : (b : Bool) (digits : List ℕ) (w : Token) → is_name w ≡ true → cond b (number digits) bad ≡ w → ⊥
unfolding is_name
of_number true digits w h e = false≢true (ap is_name e ∙ h)
of_number false digits w h e = unnamed w h e

no_number : (t : List ℕ) (rest : Option (List ℕ)) (w : Token) → is_name w ≡ true → number_before t rest ≡ w → ⊥
no_number t None w h e = unnamed w h e
no_number t (Some rest) w h e = of_number (ends_word rest) (take (length t - length rest) t) w h e

of_word : (p q r : Bool) (t : List ℕ) (w : Token) → is_name w ≡ true
    → cond p (literal true_text (boolean true) t) (cond q (literal false_text (boolean false) t) (cond r (literal null_text null t) (number_before t (after_number t)))) ≡ w → IsNamed w t
of_word true q r t w h e = let l = of_literal _ (boolean true) w h e in inl (l.0, begins true_text t l.1)
of_word false true r t w h e = let l = of_literal _ (boolean false) w h e in inr (inl (l.0, begins false_text t l.1))
of_word false false true t w h e = let l = of_literal _ null w h e in inr (inr (l.0, begins null_text t l.1))
of_word false false false t w h e = absurd (no_number t (after_number t) w h e)

named : (t : List ℕ) (w : Token) → is_name w ≡ true → word t ≡ w → IsNamed w t
unfolding word
named t w h e = of_word (head t == 116) (head t == 102) (head t == 110) t w h e

-- ---- the first lexeme

no_string : (means : Option (List ℕ)) → is_name (string_token means) ≡ false
unfolding is_name
no_string None = refl
no_string (Some s) = refl

no_operator : (a b c d e : Bool) (ls : List Lexeme) → names_first (cond a (token begin_object) (cond b (token end_object) (cond c (token begin_array) (cond d (token end_array) (cond e comma colon)))) ∷ ls) ≡ false
unfolding is_name names_first
no_operator true b c d e ls = refl
no_operator false true c d e ls = refl
no_operator false false true d e ls = refl
no_operator false false false true e ls = refl
no_operator false false false false true ls = refl
no_operator false false false false false ls = refl

first_token : (a b : Token) (ls ms : List Lexeme) → token a ∷ ls ≡ token b ∷ ms → a ≡ b
first_token a b ls ms e = cc

of_lexeme : (q b o s : Bool) (x : ℕ) (xs : List ℕ) (k : Mode → List Lexeme) (w : Token) (ls : List Lexeme) → is_name w ≡ true → s ≡ false
    → lex_byte between (cond q quote (cond b backslash (cond o operator (cond s space other)))) x xs k ≡ token w ∷ ls → word (x ∷ xs) ≡ w
unfolding names_first
of_lexeme true b o s x xs k w ls h black e = absurd (false≢true (sym (no_string (content plain xs)) ∙ ap names_first e ∙ h))
of_lexeme false true o s x xs k w ls h black e = absurd (unnamed w h (first_token _ _ _ _ e))
of_lexeme false false true s x xs k w ls h black e = absurd (false≢true (sym (no_operator _ _ _ _ _ _) ∙ ap names_first e ∙ h))
of_lexeme false false false true x xs k w ls h black e = absurd (true≢false black)
of_lexeme false false false false x xs k w ls h black e = first_token _ _ _ _ e

first_named : (x : ℕ) (xs : List ℕ) (w : Token) (ls : List Lexeme) → is_name w ≡ true → is_space x ≡ false → lex between (x ∷ xs) ≡ token w ∷ ls → IsNamed w (x ∷ xs)
unfolding lex
first_named x xs w ls h black e =
    named (x ∷ xs) w h (of_lexeme (x == 34) (x == 92) (is_operator x) (is_space x) x xs (λ next. lex next xs) w ls h black e)

-- ---- at a place

-- what is no white space is not the space that stands for the end
not_past : (x : ℕ) → is_space x ≡ false → (x == 32) ≡ false
not_past x black = ne_eqb x 32 (λ e. true≢false (sym (ap is_space e) ∙ black))

-- a name of four letters or of five stands at a place, and a word ends behind it
pub record AreLetters (text : List ℕ) (at size a b c d : ℕ) : Type 0 where
  pub room : at + size ≤ length text
  pub first : get_or text at 0 ≡ a
  pub second : get_or text (at + 1) 0 ≡ b
  pub third : get_or text (at + 2) 0 ≡ c
  pub fourth : get_or text (at + 3) 0 ≡ d
  pub ends : is_word_end (get_or text (at + size) 32) ≡ true

module _ (text : List ℕ) (at : ℕ) where
  at_place : (stop : ℕ) (w : Token) → is_name w ≡ true → is_space (get_or text at 32) ≡ false → IsTokenAt text at stop w → (at < length text) × IsNamed w (drop at text)
  at_place stop w h black t =
      let x = get_or text at 32 in
      let below : at < length text = before_end text at x refl (not_past x black) in
      let front : drop at text ≡ x ∷ drop (at + 1) text = drop_more text at 32 below in
      (below, subst (λ s. IsNamed w s) (sym front) (first_named x (drop (at + 1) text) w (lexemes text stop) h black (ap (lex between) (sym front) ∙ t.stands)))

  letter : (k : ℕ) (s : List ℕ) → drop at text ≡ s → get_or text (at + k) 0 ≡ get_or s k 0
  letter k s e = sym (get_or-drop at text k 0) ∙ ap (λ t. get_or t k 0) e

  end_of : (size : ℕ) → ends_word (drop size (drop at text)) ≡ true → is_word_end (get_or text (at + size) 32) ≡ true
  end_of size e = ap is_word_end (sym (head-drop text (at + size))) ∙ ap ends_word (sym (drop-drop size at text)) ∙ e

  letters : (size a b c d : ℕ) (s : List ℕ) → at < length text → drop at text ≡ a ∷ b ∷ c ∷ d ∷ s → size ≤ length (a ∷ b ∷ c ∷ d ∷ s) → ends_word (drop size (drop at text)) ≡ true → AreLetters text at size a b c d
  letters size a b c d s below e few ends = record {
    room = omega (arith, length-drop at text, ap length e);
    first = ap (λ k. get_or text k 0) (sym (add-zero at)) ∙ letter 0 _ e;
    second = letter 1 _ e;
    third = letter 2 _ e;
    fourth = letter 3 _ e;
    ends = end_of size ends;
  }

  null_named : at < length text → IsNamed null (drop at text) → AreLetters text at 4 110 117 108 108
  null_named below (inl n) = cc
  null_named below (inr (inl n)) = cc
  null_named below (inr (inr n)) = letters 4 110 117 108 108 (drop 4 (drop at text)) below n.1.0 (omega arith) n.1.1

  pub letters-null : (stop : ℕ) → is_space (get_or text at 32) ≡ false → IsTokenAt text at stop null → AreLetters text at 4 110 117 108 108
  unfolding is_name
  letters-null stop black t = let n = at_place stop null refl black t in null_named n.0 n.1

  true_named : at < length text → IsNamed (boolean true) (drop at text) → AreLetters text at 4 116 114 117 101
  true_named below (inl n) = letters 4 116 114 117 101 (drop 4 (drop at text)) below n.1.0 (omega arith) n.1.1
  true_named below (inr (inl n)) = cc
  true_named below (inr (inr n)) = cc

  pub letters-true : (stop : ℕ) → is_space (get_or text at 32) ≡ false → IsTokenAt text at stop (boolean true) → AreLetters text at 4 116 114 117 101
  unfolding is_name
  letters-true stop black t = let n = at_place stop (boolean true) refl black t in true_named n.0 n.1

  false_named : at < length text → IsNamed (boolean false) (drop at text) → AreLetters text at 5 102 97 108 115 × (get_or text (at + 4) 0 ≡ 101)
  false_named below (inl n) = cc
  false_named below (inr (inl n)) = (letters 5 102 97 108 115 (101 ∷ drop 5 (drop at text)) below n.1.0 (omega arith) n.1.1, letter 4 _ n.1.0)
  false_named below (inr (inr n)) = cc

  pub letters-false : (stop : ℕ) → is_space (get_or text at 32) ≡ false → IsTokenAt text at stop (boolean false) → AreLetters text at 5 102 97 108 115 × (get_or text (at + 4) 0 ≡ 101)
  unfolding is_name
  letters-false stop black t = let n = at_place stop (boolean false) refl black t in false_named n.0 n.1
