-- Where a word ends.
use Rattle.std.proofs.Common.{◌≡◌, ℕ, ◌==◌, ◌||◌, Bool, true, false, cond, List, [], ◌∷◌, drop, get_or, ◌⊎◌, inl, inr, refl, sym, ap, ◌∙◌, add-zero}
use Rattle.std.proofs.lemmas.Bool.{ne_eqb, false≢true}
use Rattle.std.proofs.lemmas.List.{get_or-drop}
use Rattle.json.specs.Lex.{between, class, in_word, lex, operator, other, space}
use Rattle.json.specs.Word.{ends_word, head, is_operator, is_space}
use Rattle.lines_json.specs.Inside.Contents.{is_word_end}

-- the byte at a place stands at the front of the rest
pub head-drop : (text : List ℕ) (at : ℕ) → head (drop at text) ≡ get_or text at 32
head-drop text at = get_or-drop at text 0 32 ∙ ap (λ k. get_or text k 32) (add-zero at)

pub ends_word-at : (text : List ℕ) (at : ℕ) → is_word_end (get_or text at 32) ≡ true → ends_word (drop at text) ≡ true
ends_word-at text at ends = ap is_word_end (head-drop text at) ∙ ends

-- what ends a word is an operator or a space
pub class_ends : (x : ℕ) → is_word_end x ≡ true → (class x ≡ operator) ⊎ (class x ≡ space)
class_ends x h =
    let no_quote : (x == 34) ≡ false = ne_eqb x 34 (λ e. false≢true (sym (ap is_word_end e) ∙ h)) in
    let no_backslash : (x == 92) ≡ false = ne_eqb x 92 (λ e. false≢true (sym (ap is_word_end e) ∙ h)) in
    rw (no_quote, no_backslash) (either (is_operator x) (is_space x) h)
  where
    either : (o s : Bool) → (o || s) ≡ true → (cond o operator (cond s space other) ≡ operator) ⊎ (cond o operator (cond s space other) ≡ space)
    either true s h = inl refl
    either false true h = inr refl
    either false false h = absurd (false≢true h)

pub goes_on : (x : ℕ) → class x ≡ other → (class x ≡ operator) ⊎ (class x ≡ space) → ⊥
goes_on x e (inl ends) = cc
goes_on x e (inr ends) = cc

byte_ends : (x : ℕ) (xs : List ℕ) → (class x ≡ operator) ⊎ (class x ≡ space) → lex in_word (x ∷ xs) ≡ lex between (x ∷ xs)
unfolding lex
byte_ends x xs (inl e) = rw e refl
byte_ends x xs (inr e) = rw e refl

-- where a byte ends the word, what follows is read as between words
pub word_ends : (t : List ℕ) → ends_word t ≡ true → lex in_word t ≡ lex between t
unfolding lex
word_ends [] h = refl
word_ends (x ∷ xs) h = byte_ends x xs (class_ends x h)
