-- The values in front of the groups of a part are ones that a program can hold and whose lines are
-- short.
use Rattle.std.proofs.Common.{◌≡◌, ℕ, ℤ, pos, negsuc, zero, suc, ◌+◌, ◌*◌, ◌^◌, ◌<◌, ◌≤◌, true, List, [], ◌∷◌, ◌++◌, length, map, refl, arith, length-append}
use Rattle.std.proofs.lemmas.Bool.{and_from, and_parts, lt-ltb, ltb-true}
use Rattle.std.proofs.lemmas.Bool.Decides.{nat_tests}
use Rattle.std.proofs.lemmas.Fmt.{length-decimal-le_wide}
use Rattle.std.proofs.lemmas.List.Elements.{All-head, All-tail}
use Rattle.std.proofs.lemmas.Str.{IsUtf8-append, IsUtf8-from_ascii, is_utf8-from_IsUtf8}
use Rattle.std.proofs.lemmas.Str.Ascii.{IsAscii-nil, IsAscii-cons}
use Rattle.std.specs.List.{All, AllByRecursion, flat_map, list_all}
use Rattle.std.specs.Prelude.{IsTrue, codes}
use Rattle.std.specs.Str.{IsAscii, IsUtf8, is_utf8}
use Rattle.hex.proofs.HexLemmas.{IsAscii-encode_with, length-encode_with}
use Rattle.hex.specs.Hex.{encode_lower, lower_digits}
use Rattle.json.proofs.Printed.Utf8.{IsUtf8-are_ascii, are_ascii}
use Rattle.json.specs.Print.{escape, escape_byte, quoted}
use Rattle.sha2.proofs.Facts256.{length-sha256}
use Rattle.sha2.specs.Sha256.{sha256}
use Rattle.semantics.specs.Canonical.{canonical_text, name_at}
use Rattle.semantics.specs.Columns.{Field}
use Rattle.semantics.specs.Parts.{checksum, column_text, columns_text, header_of, kind_text, mark, number, refused_values}
use Rattle.semantics.specs.Records.{max_line_len}
use Rattle.semantics.specs.Syntax.{Query}
use Rattle.semantics.specs.Texts.{fault_text}
use Rattle.semantics.specs.Values.{whole, text}
use Rattle.semantics.specs.Words.{begins_word, continues_word, is_word}
use Rattle.semantics.specs.declared.kind.Kind.{Kind}
use Rattle.semantics.specs.declared.kind.Kind.TheVariants as kind
use Rattle.semantics.specs.declared.line_fault.LineFault.{LineFault}
use Rattle.semantics.specs.declared.line_fault.LineFault.TheVariants.{TooLong, NoJson, NoObject, BadValue}
use Rattle.part_lines.specs.Known.{IsWritable}
use Rattle.part_lines.specs.Texts.{fits_128_bits}
use Rattle.values.specs.Schema.{IsSchema}
use Rattle.parts.proofs.StringContent.{escape_byte-six, length-escape-append}

-- ---- numbers

-- a whole number of 128 bits has at most 39 digits and a sign
pub whole-writable : (z : ℤ) → IsTrue (fits_128_bits z) → IsWritable (whole z)
whole-writable (pos n) h =
    let small : n < 2 ^ 127 = ltb-true n (2 ^ 127) h in
    (h, omega (arith, length-decimal-le_wide 39 n (omega arith) (omega (arith, small)) (omega (arith, small))))
whole-writable (negsuc n) h =
    let small : n < 2 ^ 127 = ltb-true n (2 ^ 127) h in
    (h, omega (arith, length-decimal-le_wide 39 (suc n) (omega arith) (omega (arith, small)) (omega (arith, small))))

pub number-writable : (n : ℕ) → n < 2 ^ 64 → IsWritable (number n)
number-writable n h = whole-writable (pos n) (lt-ltb n (2 ^ 127) (omega (arith, h)))

-- ---- the lengths of quoted texts

length-escape : (s : List ℕ) → length (escape s) ≤ 6 * length s
length-escape [] = omega arith
length-escape (b ∷ s) = omega (arith, length-append (escape_byte b) (escape s), escape_byte-six b, length-escape s)

length-quoted : (s : List ℕ) → length (quoted s) ≡ length (escape s) + 2
length-quoted s = omega (arith, length-append (escape s) (34 ∷ []))

text-writable : (s : List ℕ) → IsUtf8 s → length (quoted s) ≤ max_line_len → IsWritable (text s)
text-writable s u h = (is_utf8-from_IsUtf8 s u, h)

-- an escaped byte has 6 bytes at most, so that a text of 1000 bytes is short enough
short-writable : (s : List ℕ) → IsUtf8 s → length s ≤ 1000 → IsWritable (text s)
short-writable s u h = text-writable s u (omega (arith, length-quoted s, length-escape s, h))

-- ---- the last value

-- a test that computes
ascii-tested : (s : List ℕ) → are_ascii s ≡ true → IsAscii s
ascii-tested [] e = IsAscii-nil
ascii-tested (b ∷ s) e = let p = and_parts _ _ e in IsAscii-cons b s (ltb-true b 128 p.0) (ascii-tested s p.1)

pub checksum-writable : (bytes : List ℕ) → IsWritable (checksum bytes)
checksum-writable bytes =
    short-writable (encode_lower (sha256 bytes))
    (IsUtf8-from_ascii (encode_lower (sha256 bytes)) (IsAscii-encode_with lower_digits (sha256 bytes) (ascii-tested lower_digits refl)))
    (omega (arith, length-encode_with lower_digits (sha256 bytes), length-sha256 bytes))

-- ---- names and columns are in UTF-8

continues-ascii : (b : ℕ) → continues_word b ≡ true → b < 128
continues-ascii b h = grind (arith, nat_tests, h)

all-continue : (bs : List ℕ) → list_all continues_word bs ≡ true → are_ascii bs ≡ true
all-continue [] h = refl
all-continue (b ∷ bs) h = let p = and_parts _ _ h in and_from _ _ (lt-ltb b 128 (continues-ascii b p.0)) (all-continue bs p.1)

begins-ascii : (b : ℕ) → begins_word b ≡ true → b < 128
begins-ascii b h = grind (arith, nat_tests, h)

word-utf8 : (name : List ℕ) → IsTrue (is_word name) → IsUtf8 name
word-utf8 [] h = absurd cc
word-utf8 (b ∷ bs) h = let p = and_parts _ _ h in IsUtf8-are_ascii (b ∷ bs) (and_from _ _ (lt-ltb b 128 (begins-ascii b p.0)) (all-continue bs p.1))

kind-utf8 : (k : Kind) → IsUtf8 (kind_text k)
kind-utf8 kind.Int = IsUtf8-are_ascii _ refl
kind-utf8 kind.Text = IsUtf8-are_ascii _ refl
kind-utf8 kind.Bool = IsUtf8-are_ascii _ refl

column-utf8 : (field : Field) → IsTrue (is_word field.name) → IsUtf8 (column_text field)
column-utf8 field h =
    IsUtf8-append (field.name ++ codes ":") (kind_text field.kind)
    (IsUtf8-append field.name (codes ":") (word-utf8 field.name h) (IsUtf8-are_ascii (codes ":") refl)) (kind-utf8 field.kind)

abbrev HasWord : Field → Type 0
HasWord field = IsTrue (is_word field.name)

-- What stands behind the first column.
abbrev others_text : List Field → List ℕ
others_text fields = flat_map (λ t. codes "," ++ t) (map column_text fields)

others-utf8 : (fields : List Field) → All HasWord fields → IsUtf8 (others_text fields)
others-utf8 [] h = IsUtf8-are_ascii [] refl
others-utf8 (field ∷ fields) h =
    IsUtf8-append (codes "," ++ column_text field) (others_text fields)
    (IsUtf8-append (codes ",") (column_text field) (IsUtf8-are_ascii _ refl) (column-utf8 field (All-head HasWord field fields h)))
    (others-utf8 fields (All-tail HasWord field fields h))

columns-utf8 : (fields : List Field) → All HasWord fields → IsUtf8 (columns_text fields)
columns-utf8 [] h = IsUtf8-are_ascii [] refl
columns-utf8 (field ∷ fields) h =
    IsUtf8-append (column_text field) (others_text fields)
    (column-utf8 field (All-head HasWord field fields h)) (others-utf8 fields (All-tail HasWord field fields h))

-- ---- the name at a place

name-utf8 : (fields : List Field) (place : ℕ) → All HasWord fields → IsUtf8 (name_at fields place)
name-utf8 [] place h = IsUtf8-are_ascii [] refl
name-utf8 (field ∷ fields) zero h = word-utf8 field.name (All-head HasWord field fields h)
name-utf8 (field ∷ fields) (suc place) h = name-utf8 fields place (All-tail HasWord field fields h)

column-length : (field : Field) → length (escape field.name) ≤ length (escape (column_text field))
column-length field = omega (arith, length-escape-append (field.name ++ codes ":") (kind_text field.kind), length-escape-append field.name (codes ":"))

-- the name of a column is a part of the text of the columns
name-in-others : (fields : List Field) (place : ℕ) → length (escape (name_at fields place)) ≤ length (escape (others_text fields))
name-in-others [] place = omega arith
name-in-others (field ∷ fields) zero =
    omega (arith, column-length field, length-escape-append (codes ",") (column_text field), length-escape-append (codes "," ++ column_text field) (others_text fields))
name-in-others (field ∷ fields) (suc place) =
    omega (arith, name-in-others fields place, length-escape-append (codes "," ++ column_text field) (others_text fields))

name-in-columns : (fields : List Field) (place : ℕ) → length (escape (name_at fields place)) ≤ length (escape (columns_text fields))
name-in-columns [] place = omega arith
name-in-columns (field ∷ fields) zero = omega (arith, column-length field, length-escape-append (column_text field) (others_text fields))
name-in-columns (field ∷ fields) (suc place) = omega (arith, name-in-others fields place, length-escape-append (column_text field) (others_text fields))

-- ---- the first lines and the refused ones

module _ (fields : List Field) (schema : IsSchema fields) (columns : length (quoted (columns_text fields)) ≤ 1000000) where
  pub header-writable : (q : Query) → IsTrue (is_utf8 (canonical_text q)) → length (quoted (canonical_text q)) ≤ 1000000
      → AllByRecursion IsWritable (header_of (columns_text fields) (canonical_text q))
  header-writable q utf8 short = (
    short-writable mark (IsUtf8-are_ascii mark refl) (omega arith),
    (text-writable (columns_text fields) (columns-utf8 fields schema.names) (omega (arith, columns)), ((utf8, omega (arith, short)), tt)),
  )

  fault-writable : (fault : LineFault) → IsWritable (text (fault_text fields fault))
  fault-writable TooLong = short-writable (codes "too long") (IsUtf8-are_ascii _ refl) (omega arith)
  fault-writable NoJson = short-writable (codes "not JSON") (IsUtf8-are_ascii _ refl) (omega arith)
  fault-writable NoObject = short-writable (codes "not an object") (IsUtf8-are_ascii _ refl) (omega arith)
  fault-writable (BadValue place) =
      let before : List ℕ = codes "bad value in column " in
      let name : List ℕ = name_at fields place in
      text-writable (before ++ name) (IsUtf8-append before name (IsUtf8-are_ascii _ refl) (name-utf8 fields place schema.names))
      (omega (arith, length-quoted (before ++ name), length-escape-append before name, length-escape before, name-in-columns fields place, length-quoted (columns_text fields), columns))

  -- the values of refused lines of so many lines; a place beyond the columns has an empty name
  pub refused-writable : (lines : ℕ) (refused : List (ℕ × LineFault)) → lines < 2 ^ 63 → AllByRecursion (λ x. x.0 ≤ lines) refused → AllByRecursion IsWritable (refused_values fields refused)
  refused-writable lines [] few h = tt
  refused-writable lines (line ∷ refused) few h =
      (number-writable line.0 (omega (arith, few, h.0)), (fault-writable line.1, refused-writable lines refused few h.1))
