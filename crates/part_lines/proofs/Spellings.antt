-- The one spelling of a value, and what a reader of lines tells by it.
use Rattle.std.proofs.Common.{◌≡◌, ◌∷◌, [], List, ℕ, ℤ, Bool, true, false, cond, ◌&&◌, Option, Some, None, option_and_then, bytes_eq, Result, Ok, Err, refl, sym, ap, subst, ◌∙◌, append-nil, IsUtf8}
use Rattle.std.proofs.lemmas.Bool.{and_from, and_parts, false≢true}
use Rattle.std.proofs.lemmas.Option.{cond_some, none-some}
use Rattle.std.proofs.lemmas.Slice.Eq.{bytes_eq-Decides}
use Rattle.std.proofs.lemmas.Str.{IsUtf8-from_is_utf8, is_utf8-from_IsUtf8}
use Rattle.std.proofs.Math.Bool.{Bool-set}
use Rattle.std.proofs.Math.Logic.{∥∥₁_elim}
use Rattle.std.specs.Fmt.{signed_decimal}
use Rattle.std.specs.Str.{is_utf8}
use Rattle.std.specs.Prelude.{◌==◌, IfOk, IsTrue, option_map, slice_index}
use Rattle.std.specs.declared.alloc.AllocError.{AllocError}
use Rattle.json.proofs.Printed.Tokens.{tokens-print}
use Rattle.json.proofs.Printed.Utf8.{IsUtf8-boolean, IsUtf8-are_ascii, IsUtf8-quoted}
use Rattle.json.specs.Lex.{tokens}
use Rattle.json.specs.Print.{ArePrintable, IsPrintable, print, print_from, token_text}
use Rattle.json.specs.Token as json
use Rattle.json.specs.Token.{Token}
use Rattle.semantics.specs.Values.{Datum, boolean, whole, text, null}
use Rattle.values.specs.Datum.{datum_of}
use Rattle.values.specs.declared.value.Value.{Value}
use Rattle.part_lines.specs.Inside.LineValues.{IsNoLiteralName, TellsAmong}
use Rattle.part_lines.specs.LineValues.{IsTextOf, Tells, if_spelled, line_value, token_value, tokens_value}
use Rattle.part_lines.specs.Texts.{is_storable}
use Rattle.semantics.specs.Parts.{value_text}
use Rattle.part_lines.proofs.Numerals.{first-signed, number-signed, signed-IsUtf8, value-signed}

-- ---- the token of a value

abbrev pub token_of_datum : Datum → Token
token_of_datum (boolean b) = json.boolean b
token_of_datum (whole n) = json.number (signed_decimal n)
token_of_datum (text s) = json.string s
token_of_datum null = json.null

token-text : (d : Datum) → token_text (token_of_datum d) ≡ value_text d
token-text (boolean true) = refl
token-text (boolean false) = refl
token-text (whole n) = refl
token-text (text s) = refl
token-text null = refl

printable : (d : Datum) → IsTrue (is_storable d) → IsPrintable (token_of_datum d)
printable (boolean b) h = tt
printable (whole n) h = number-signed n h
printable (text s) h = tt
printable null h = tt

pub print-one : (t : Token) → print (t ∷ []) ≡ token_text t
unfolding print_from
print-one t = append-nil (token_text t)

pub tokens-printed : (d : Datum) → IsPrintable (token_of_datum d) → tokens (value_text d) ≡ token_of_datum d ∷ []
unfolding ArePrintable
tokens-printed d h =
    ap tokens (sym (print-one (token_of_datum d) ∙ token-text d)) ∙ tokens-print (token_of_datum d ∷ []) (h, tt)

pub tokens-text : (d : Datum) → IsTrue (is_storable d) → tokens (value_text d) ≡ token_of_datum d ∷ []
tokens-text d h = tokens-printed d (printable d h)

token-value : (d : Datum) → IsTrue (is_storable d) → token_value (token_of_datum d) ≡ Some d
token-value (boolean b) h = refl
token-value (whole n) h = ap (λ m. Some (whole m)) (value-signed n h)
token-value (text s) h = refl
token-value null h = refl

-- ---- a value and its line

pub line_value-text : (d : Datum) → IsTrue (is_storable d) → line_value (value_text d) ≡ Some d
line_value-text d h =
    ap (option_and_then (if_spelled (value_text d))) (ap tokens_value (tokens-text d h) ∙ token-value d h)
    ∙ ap (λ b. cond b (Some d) None) (and_from _ _ h ((bytes_eq-Decides (value_text d) (value_text d)).1 refl))

found-spelled : (line : List ℕ) (o : Option Datum) (d : Datum) → option_and_then (if_spelled line) o ≡ Some d → IsTextOf line d
found-spelled line None d found = absurd (none-some d found)
found-spelled line (Some e) d found =
    let q = cond_some (is_storable e && bytes_eq (value_text e) line) e d found in
    let p = and_parts _ _ q.0 in
    subst (IsTextOf line) q.1 (p.0, sym ((bytes_eq-Decides (value_text e) line).0 p.1))

pub text-line_value : (line : List ℕ) (d : Datum) → line_value line ≡ Some d → IsTextOf line d
text-line_value line d found = found-spelled line (tokens_value (tokens line)) d found

-- ---- what a reader tells

pub no_value : (line : List ℕ) (o : Option Datum) → line_value line ≡ o → ((d : Datum) → ¬ IsTextOf line d) → o ≡ None
no_value line None e none = refl
no_value line (Some d) e none = absurd (none d (text-line_value line d e))

pub tells : (line : List ℕ) (o : Option Value) → TellsAmong (λ d. d) line o → line_value line ≡ option_map datum_of o
tells line (Some value) h = ap line_value h.1 ∙ line_value-text (datum_of value) h.0
tells line None h = no_value line (line_value line) refl h

-- what a program holds as a text is in UTF-8
pub utf8-held : (s : List ℕ) → ∥ IsUtf8 s ∥₁ → IsTrue (is_utf8 s)
utf8-held s h = ∥∥₁_elim h (Bool-set (is_utf8 s) true) (is_utf8-from_IsUtf8 s)

-- A text begins with a quote, and no other value does.
abbrev pub is_string : Datum → Bool
is_string (boolean b) = false
is_string (whole n) = false
is_string (text s) = true
is_string null = false

first-text : (d : Datum) → IsTrue (is_storable d) → (slice_index (value_text d) 0 == 34) ≡ is_string d
first-text (boolean true) h = refl
first-text (boolean false) h = refl
first-text (whole n) h = first-signed n h
first-text (text s) h = refl
first-text null h = refl

spelling-first : (line : List ℕ) (d : Datum) → IsTextOf line d → (slice_index line 0 == 34) ≡ is_string d
spelling-first line d t = ap (λ l. slice_index l 0 == 34) t.1 ∙ first-text d t.0

only-texts : (line : List ℕ) → (slice_index line 0 == 34) ≡ true → ((s : List ℕ) → ¬ IsTextOf line (text s)) → (d : Datum) → ¬ IsTextOf line d
only-texts line quote none (boolean b) t = false≢true (sym (spelling-first line (boolean b) t) ∙ quote)
only-texts line quote none (whole n) t = false≢true (sym (spelling-first line (whole n) t) ∙ quote)
only-texts line quote none (text s) t = none s t
only-texts line quote none null t = false≢true (sym (spelling-first line null t) ∙ quote)

-- where a line begins with a quote, it suffices to tell among the texts
pub among-texts : (line : List ℕ) (r : Result (Option Value) AllocError) → (slice_index line 0 == 34) ≡ true → IfOk r (TellsAmong text line) → Tells r (line_value line)
among-texts line (Ok (Some value)) quote h = tells line (Some value) h
among-texts line (Ok None) quote h = tells line None (only-texts line quote h)
among-texts line (Err refused) quote h = tt

only-numbers : (line : List ℕ) → (slice_index line 0 == 34) ≡ false → IsNoLiteralName line → ((n : ℤ) → ¬ IsTextOf line (whole n)) → (d : Datum) → ¬ IsTextOf line d
only-numbers line quote other none (boolean true) t = other.0 t
only-numbers line quote other none (boolean false) t = other.1 t
only-numbers line quote other none (whole n) t = none n t
only-numbers line quote other none (text s) t = false≢true (sym quote ∙ spelling-first line (text s) t)
only-numbers line quote other none null t = other.2 t

-- where it does not, and is no literal name, it suffices to tell among the numbers
pub among-numbers : (line : List ℕ) (o : Option Value) → (slice_index line 0 == 34) ≡ false → IsNoLiteralName line → TellsAmong whole line o → line_value line ≡ option_map datum_of o
among-numbers line (Some value) quote other h = tells line (Some value) h
among-numbers line None quote other h = tells line None (only-numbers line quote other h)

-- ---- the text of a value is in UTF-8

pub text-IsUtf8 : (d : Datum) → IsTrue (is_storable d) → IsUtf8 (value_text d)
text-IsUtf8 (boolean true) h = IsUtf8-boolean true
text-IsUtf8 (boolean false) h = IsUtf8-boolean false
text-IsUtf8 (whole n) h = signed-IsUtf8 n h
text-IsUtf8 (text s) h = IsUtf8-quoted s (IsUtf8-from_is_utf8 s h)
text-IsUtf8 null h = IsUtf8-are_ascii _ refl
