-- Of the text of a value no other value is read, whether or not a program can hold it.
use Rattle.std.proofs.Common.{◌≡◌, ℤ, Bool, true, false, cond, ◌&&◌, Option, Some, None, option_and_then, bytes_eq, refl, sym, ap, subst, arith}
use Rattle.std.specs.Fmt.{signed_decimal}
use Rattle.std.specs.Prelude.{IfSome, slice_index}
use Rattle.json.specs.Lex.{tokens}
use Rattle.semantics.specs.Values.{Datum, boolean, whole, text, null}
use Rattle.part_lines.specs.LineValues.{IsTextOf, if_spelled, line_value, tokens_value}
use Rattle.part_lines.specs.Texts.{is_storable}
use Rattle.semantics.specs.Parts.{value_text}
use Rattle.part_lines.proofs.Decimals.{signed-bounds, signed-same}
use Rattle.part_lines.proofs.Spellings.{text-line_value, tokens-printed}

-- ---- truth values, texts and NULL

spelled-same : (b : Bool) (d : Datum) → IfSome (cond b (Some d) None) (λ e. e ≡ d)
spelled-same true d = refl
spelled-same false d = tt

token-same : (d : Datum) → tokens_value (tokens (value_text d)) ≡ Some d → IfSome (line_value (value_text d)) (λ e. e ≡ d)
token-same d read =
    subst (λ o. IfSome (option_and_then (if_spelled (value_text d)) o) (λ e. e ≡ d)) (sym read)
    (spelled-same (is_storable d && bytes_eq (value_text d) (value_text d)) d)

-- ---- whole numbers

-- no other value begins as a number does
number-same : (n : ℤ) (e : Datum) → IsTextOf (signed_decimal n) e → e ≡ whole n
number-same n (boolean true) t = absurd (omega (arith, signed-bounds n, ap (λ l. slice_index l 0) t.1))
number-same n (boolean false) t = absurd (omega (arith, signed-bounds n, ap (λ l. slice_index l 0) t.1))
number-same n (whole m) t = ap whole (signed-same m n t.0 (sym t.1))
number-same n (text s) t = absurd (omega (arith, signed-bounds n, ap (λ l. slice_index l 0) t.1))
number-same n null t = absurd (omega (arith, signed-bounds n, ap (λ l. slice_index l 0) t.1))

found-same : (n : ℤ) (o : Option Datum) → line_value (signed_decimal n) ≡ o → IfSome o (λ e. e ≡ whole n)
found-same n None found = tt
found-same n (Some e) found = number-same n e (text-line_value (signed_decimal n) e found)

-- ---- all values

pub line_value-same : (d : Datum) → IfSome (line_value (value_text d)) (λ e. e ≡ d)
line_value-same (boolean b) = token-same (boolean b) (ap tokens_value (tokens-printed (boolean b) tt))
line_value-same (whole n) = found-same n (line_value (signed_decimal n)) refl
line_value-same (text s) = token-same (text s) (ap tokens_value (tokens-printed (text s) tt))
line_value-same null = token-same null (ap tokens_value (tokens-printed null tt))
