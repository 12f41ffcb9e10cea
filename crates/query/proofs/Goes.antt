-- Texts that spell tokens in front of others, and how they are put together.
use Rattle.std.proofs.Common.{◌≡◌, ℕ, true, List, [], ◌∷◌, ◌++◌, map, refl, append_assoc}
use Rattle.std.specs.Prelude.{codes}
use Rattle.std.specs.List.{flat_map}
use Rattle.semantics.specs.declared.token.Token.{Token}
use Rattle.semantics.specs.declared.token.Token.TheVariants as tokens
use Rattle.semantics.specs.declared.token.Word.{Word}
use Rattle.semantics.specs.declared.token.Sign.TheVariants as s
use Rattle.query_lexer.specs.Words.{word_text}
use Rattle.semantics.specs.Canonical.{separated_texts, comma_list, in_brackets}
use Rattle.query.proofs.Good.{Each}
use Rattle.query.proofs.Onto.{Onto, others_onto, list_onto, brackets_onto}
use Rattle.query.proofs.Spelled.{Spelled, breaks, spelled_space, spelled_word, spelled_open, spelled_close, spelled_comma}

-- The text spells these tokens, whatever stands behind it.
pub record Free (text : List ℕ) (f : Onto) : Type 0 where
  pub goes : (rest : List ℕ) (ks : List Token) → Spelled rest ks → Spelled (text ++ rest) (f ks)

-- The text spells these tokens in front of what continues none of them.
pub record Goes (text : List ℕ) (f : Onto) : Type 0 where
  pub goes : (rest : List ℕ) (ks : List Token) → breaks rest ≡ true → Spelled rest ks → Spelled (text ++ rest) (f ks)

-- The text continues no token, where what stands behind it continues none.
pub record Begins (text : List ℕ) : Type 0 where
  pub begins : (rest : List ℕ) → breaks rest ≡ true → breaks (text ++ rest) ≡ true

-- The text continues no token, whatever stands behind it.
pub record Breaks (text : List ℕ) : Type 0 where
  pub breaking : (rest : List ℕ) → breaks (text ++ rest) ≡ true

-- ---- one behind the other

pub free_free : {a b : List ℕ} {f g : Onto} → Free a f → Free b g → Free (a ++ b) (λ ks. f (g ks))
free_free {a} {b} {f} {g} x y = record { goes = λ rest ks h. rw (append_assoc a b rest) (x.goes (b ++ rest) (g ks) (y.goes rest ks h)) }

pub free_goes : {a b : List ℕ} {f g : Onto} → Free a f → Goes b g → Goes (a ++ b) (λ ks. f (g ks))
free_goes {a} {b} {f} {g} x y = record { goes = λ rest ks q h. rw (append_assoc a b rest) (x.goes (b ++ rest) (g ks) (y.goes rest ks q h)) }

pub goes_free : {a b : List ℕ} {f g : Onto} → Goes a f → Breaks b → Free b g → Free (a ++ b) (λ ks. f (g ks))
goes_free {a} {b} {f} {g} x at y =
    record { goes = λ rest ks h. rw (append_assoc a b rest) (x.goes (b ++ rest) (g ks) (at.breaking rest) (y.goes rest ks h)) }

pub goes_goes : {a b : List ℕ} {f g : Onto} → Goes a f → Begins b → Goes b g → Goes (a ++ b) (λ ks. f (g ks))
goes_goes {a} {b} {f} {g} x at y =
    record { goes = λ rest ks q h. rw (append_assoc a b rest) (x.goes (b ++ rest) (g ks) (at.begins rest q) (y.goes rest ks q h)) }

pub goes_of : {a : List ℕ} {f : Onto} → Free a f → Goes a f
goes_of x = record { goes = λ rest ks q h. x.goes rest ks h }

pub begins_of : {a : List ℕ} → Breaks a → Begins a
begins_of x = record { begins = λ rest q. x.breaking rest }

pub breaks_then : {a : List ℕ} (b : List ℕ) → Breaks a → Breaks (a ++ b)
breaks_then {a} b x = record { breaking = λ rest. rw (append_assoc a b rest) (x.breaking (b ++ rest)) }

-- Nothing.
pub nothing_goes : Goes [] (λ ks. ks)
nothing_goes = record { goes = λ rest ks q h. h }

pub nothing_free : Free [] (λ ks. ks)
nothing_free = record { goes = λ rest ks h. h }

pub nothing_begins : Begins []
nothing_begins = record { begins = λ rest q. q }

-- ---- words and brackets

abbrev pub word_onto : Word → Onto
word_onto x ks = tokens.Word x ∷ ks

pub word_goes : (x : Word) → Goes (word_text x) (word_onto x)
word_goes x = record { goes = λ rest ks q h. spelled_word x q h }

-- A word and a space.
pub word_free : (x : Word) → Free (word_text x ++ 32 ∷ []) (word_onto x)
word_free x = record { goes = λ rest ks h. rw (append_assoc (word_text x) (32 ∷ []) rest) (spelled_word x refl (spelled_space h)) }

-- A text behind a space.
pub spaced_free : {a : List ℕ} {f : Onto} → Free a f → Free (32 ∷ a) f
spaced_free x = record { goes = λ rest ks h. spelled_space (x.goes rest ks h) }

pub space_breaks : (a : List ℕ) → Breaks (32 ∷ a)
space_breaks a = record { breaking = λ rest. refl }

pub space_free : Free (codes " ") (λ ks. ks)
space_free = record { goes = λ rest ks h. spelled_space h }

pub open_free : Free (codes "(") (λ ks. tokens.Sign s.Open ∷ ks)
open_free = record { goes = λ rest ks h. spelled_open h }

pub open_breaks : Breaks (codes "(")
open_breaks = record { breaking = λ rest. refl }

pub close_free : Free (codes ")") (λ ks. tokens.Sign s.Close ∷ ks)
close_free = record { goes = λ rest ks h. spelled_close h }

pub close_breaks : Breaks (codes ")")
close_breaks = record { breaking = λ rest. refl }

pub brackets_free : {a : List ℕ} {f : Onto} → Goes a f → Free (in_brackets a) (brackets_onto f)
brackets_free x = goes_free (free_goes open_free x) close_breaks close_free

-- ---- lists

-- What stands between the parts of a list.
pub record Separates (text : List ℕ) (sep : Token) : Type 0 where
  pub between : Free text (λ ks. sep ∷ ks)
  pub breaking : Breaks text

pub comma_separates : Separates (codes ", ") (tokens.Sign s.Comma)
comma_separates = record { between = record { goes = λ rest ks h. spelled_comma (spelled_space h) }; breaking = record { breaking = λ rest. refl } }

pub word_separates : (x : Word) → Separates (32 ∷ (word_text x ++ 32 ∷ [])) (tokens.Word x)
word_separates x = record { between = spaced_free (word_free x); breaking = space_breaks _ }

-- Each text of a list spells the tokens of the same place.
abbrev pub AllGo : List (List ℕ) → List Onto → Type 0
AllGo [] [] = Unit {0}
AllGo [] (f ∷ fs) = ⊥
AllGo (a ∷ texts) [] = ⊥
AllGo (a ∷ texts) (f ∷ fs) = Goes a f × AllGo texts fs

abbrev others : List ℕ → List (List ℕ) → List ℕ
others between texts = flat_map (λ text. between ++ text) texts

others_begin : (between : List ℕ) (sep : Token) → Separates between sep → (texts : List (List ℕ)) → Begins (others between texts)
others_begin between sep b [] = nothing_begins
others_begin between sep b (a ∷ texts) = begins_of (breaks_then (others between texts) (breaks_then a b.breaking))

others_go : (between : List ℕ) (sep : Token) → Separates between sep → (texts : List (List ℕ)) (fs : List Onto) → AllGo texts fs
    → Goes (others between texts) (others_onto sep fs)
others_go between sep b [] [] g = nothing_goes
others_go between sep b [] (f ∷ fs) g = absurd g
others_go between sep b (a ∷ texts) [] g = absurd g
others_go between sep b (a ∷ texts) (f ∷ fs) g =
    goes_goes (free_goes b.between g.0) (others_begin between sep b texts) (others_go between sep b texts fs g.1)

-- A list of such texts.
pub list_goes : (between : List ℕ) (sep : Token) → Separates between sep → (texts : List (List ℕ)) (fs : List Onto) → AllGo texts fs
    → Goes (separated_texts between texts) (list_onto sep fs)
list_goes between sep b [] [] g = nothing_goes
list_goes between sep b [] (f ∷ fs) g = absurd g
list_goes between sep b (a ∷ texts) [] g = absurd g
list_goes between sep b (a ∷ texts) (f ∷ fs) g = goes_goes g.0 (others_begin between sep b texts) (others_go between sep b texts fs g.1)

pub commas_go : (texts : List (List ℕ)) (fs : List Onto) → AllGo texts fs → Goes (comma_list texts) (list_onto (tokens.Sign s.Comma) fs)
commas_go texts fs g = list_goes (codes ", ") (tokens.Sign s.Comma) comma_separates texts fs g

-- The texts of a list whose elements spell.
pub each_goes : {A : Type 0} (P : A → Type 0) (text : A → List ℕ) (onto : A → Onto) → ((x : A) → P x → Goes (text x) (onto x)) → (xs : List A)
    → Each P xs → AllGo (map text xs) (map onto xs)
each_goes P text onto goes [] g = tt
each_goes P text onto goes (x ∷ xs) g = (goes x g.0, each_goes P text onto goes xs g.1)
