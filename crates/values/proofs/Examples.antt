-- The definitions, computed on examples.
use Rattle.std.proofs.Common.{◌≡◌, [], ◌∷◌, Ok, Err, pos, negsuc, true, false, refl, codes, arith}
use Rattle.std.specs.declared.cmp.Ordering.TheVariants.{Less}
use Rattle.semantics.specs.declared.kind.Kind.TheVariants as kind
use Rattle.semantics.specs.declared.schema_fault.SchemaFault.TheVariants.{Empty, BadName, UnknownType, RepeatedName}
use Rattle.semantics.specs.declared.truth.Truth.TheVariants.{True, Unknown, False}
use Rattle.semantics.specs.declared.comparison.Op.TheVariants as op
use Rattle.semantics.specs.Values.{boolean, whole, text, null, comparison, value_order}
use Rattle.semantics.specs.Records.{Holds}
use Rattle.semantics.specs.Columns.{schema_of}

two_columns : schema_of (codes "day:text,cents_2:int") ≡ Ok (record { name = codes "day"; kind = kind.Text } ∷ record { name = codes "cents_2"; kind = kind.Int } ∷ [])
two_columns = refl

empty : schema_of (codes "") ≡ Err Empty
empty = refl

begins_with_a_digit : schema_of (codes "1a:int") ≡ Err (BadName 1)
begins_with_a_digit = refl

ends_with_a_comma : schema_of (codes "a:int,") ≡ Err (BadName 2)
ends_with_a_comma = refl

without_type : schema_of (codes "a:int,b") ≡ Err (UnknownType 2)
without_type = refl

of_another_type : schema_of (codes "a:Int") ≡ Err (UnknownType 1)
of_another_type = refl

with_two_colons : schema_of (codes "a:int:") ≡ Err (UnknownType 1)
with_two_colons = refl

with_white_space : schema_of (codes "a:int, b:int") ≡ Err (BadName 2)
with_white_space = refl

twice : schema_of (codes "a:int,a:text") ≡ Err (RepeatedName 2)
twice = refl

without_name : schema_of (codes ":int") ≡ Err (BadName 1)
without_name = refl

of_another_letter : schema_of (codes "é:int") ≡ Err (BadName 1)
of_another_letter = refl

in_capitals : schema_of (codes "a:INT") ≡ Err (UnknownType 1)
in_capitals = refl

begins_with_a_line : schema_of (codes "_r2:bool") ≡ Ok (record { name = codes "_r2"; kind = kind.Bool } ∷ [])
begins_with_a_line = refl

-- the first part with a fault is named, and of its faults the first
first_of_two : schema_of (codes "a:int,a:date,1:int") ≡ Err (UnknownType 2)
first_of_two = refl

null_equals_nothing : comparison op.Eq null null ≡ Unknown
null_equals_nothing = refl

as_numbers : comparison op.Lt (whole (negsuc 9)) (whole (pos 9)) ≡ True
as_numbers = refl

by_bytes : comparison op.Lt (text (codes "b")) (text (codes "aa")) ≡ False
by_bytes = refl

false_is_less : comparison op.Gt (boolean true) (boolean true) ≡ False
false_is_less = refl

different_numbers : comparison op.Ne (whole (pos 1)) (whole (pos 2)) ≡ True
different_numbers = refl

-- ---- the order of all values, and what a column holds

false_is_first : value_order (boolean false) (boolean true) ≡ Less
false_is_first = refl

numbers_behind_truth_values : value_order (boolean true) (whole (negsuc 9)) ≡ Less
numbers_behind_truth_values = refl

texts_behind_numbers : value_order (whole (pos 9)) (text []) ≡ Less
texts_behind_numbers = refl

capitals_first : value_order (text (codes "Z")) (text (codes "a")) ≡ Less
capitals_first = refl

shorter_first : value_order (text (codes "a")) (text (codes "aa")) ≡ Less
shorter_first = refl

other_letters_last : value_order (text (codes "aa")) (text (codes "é")) ≡ Less
other_letters_last = refl

null_is_last : value_order (text (codes "é")) null ≡ Less
null_is_last = refl

greatest_of_64_bits : Holds kind.Int (whole (pos 9223372036854775807))
greatest_of_64_bits = omega arith

one_more : Holds kind.Int (whole (pos 9223372036854775808)) → ⊥
one_more h = omega (arith, h)
