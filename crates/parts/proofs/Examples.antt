-- The text of a part, computed on examples.
use Rattle.std.proofs.Common.{◌≡◌, ℕ, pos, false, List, [], ◌∷◌, codes, length, refl, None, Some, arith}
use Rattle.std.specs.Fmt.{digits}
use Rattle.std.specs.Str.{is_utf8, chars}
use Rattle.json.proofs.OnLiterals.{json_on_literals}
use Rattle.json.specs.Print.{quoted}
use Rattle.serde_json.proofs.OnLiterals.{serde_json_on_literals}
use Rattle.semantics.specs.Canonical.{canonical_text}
use Rattle.semantics.specs.Columns.{Field}
use Rattle.semantics.specs.Joins.{CanBeJoined}
use Rattle.semantics.specs.Syntax.{Query, GroupingElement, SetFunction, name, function, over_all, over_filtered, rollup, expression, literal, compare}
use Rattle.semantics.specs.Words.{reserved_word}
use Rattle.semantics.specs.declared.aggregate.Aggregate.TheVariants as aggregate
use Rattle.semantics.specs.declared.comparison.Op.TheVariants.{Gt}
use Rattle.semantics.specs.declared.kind.Kind.TheVariants as kind
use Rattle.semantics.specs.declared.literal.Literal.TheVariants as constant
use Rattle.hex.specs.Hex.{encode_with}
use Rattle.semantics.specs.Parts.{text_of, newline_terminated, columns_text, concatenated, part_text, part_values}
use Rattle.sha2.specs.Sha256.{sha256, digest_bytes, hash_after, compress, rounds, schedule, first_words}

-- shop:text,cents:int
abbrev fields : List Field
fields = record { name = codes "shop"; kind = kind.Text } ∷ record { name = codes "cents"; kind = kind.Int } ∷ []

columns : columns_text fields ≡ codes "shop:text,cents:int"
columns = refl

-- SUM(cents), and SUM(cents) FILTER (WHERE cents > 2)
abbrev sum : SetFunction
sum = over_all (aggregate.Sum (codes "cents"))

abbrev sum_above_2 : SetFunction
sum_above_2 = over_filtered (aggregate.Sum (codes "cents")) (compare (expression (name (codes "cents"))) Gt (literal (constant.Integer (pos 2))))

-- SELECT shop, f AS s FROM lines, with or without GROUP BY
abbrev query : SetFunction → List GroupingElement → Query
query f groups = record {
  items = record { expression = name (codes "shop"); alias = None } ∷ record { expression = function f; alias = Some (codes "s") } ∷ [];
  where_condition = None;
  distinct_sets = false;
  groups = groups;
  having_condition = None;
  keys = [];
}

-- SELECT f AS s FROM lines
abbrev query_of_one : SetFunction → Query
query_of_one f = record {
  items = record { expression = function f; alias = Some (codes "s") } ∷ [];
  where_condition = None;
  distinct_sets = false;
  groups = [];
  having_condition = None;
  keys = [];
}

-- GROUP BY ROLLUP (shop)
abbrev by_shop : List GroupingElement
by_shop = rollup ((codes "shop" ∷ []) ∷ []) ∷ []

-- ---- four lines, of which the second is refused

four : List ℕ
four = codes "{\"shop\":\"Harbour\",\"cents\":5}\nnot JSON\n{\"shop\":\"Harbour\",\"cents\":2}\n{\"cents\":1}\n"

-- the text of their part; its last line is the SHA-256 that other programs compute
four_text : part_text fields (query sum by_shop) four ≡ codes "\"jlreport part 1\"\n\"shop:text,cents:int\"\n\"SELECT shop, SUM(cents) AS s FROM lines GROUP BY ROLLUP (shop)\"\n4\n1\n2\n\"not JSON\"\n2\n\"Harbour\"\n2\n7\n2\nnull\n1\n1\n1\n\"d6c42a35f77c6ec05dcafd798ea7477daf5fa4a8203bcdc3801bef5c84155bee\"\n"
unfolding serde_json_on_literals json_on_literals is_utf8 chars digits reserved_word four encode_with sha256 digest_bytes hash_after compress rounds schedule first_words
four_text = refl

-- ---- other inputs

-- no lines: under GROUP BY there is no group
none_text : text_of (part_values fields (query sum by_shop) []) ≡ codes "\"jlreport part 1\"\n\"shop:text,cents:int\"\n\"SELECT shop, SUM(cents) AS s FROM lines GROUP BY ROLLUP (shop)\"\n0\n0\n0\n"
unfolding serde_json_on_literals json_on_literals is_utf8 chars digits reserved_word
none_text = refl

-- without GROUP BY there is one, with no key, over no records too
none_of_all : text_of (part_values fields (query_of_one sum) []) ≡ codes "\"jlreport part 1\"\n\"shop:text,cents:int\"\n\"SELECT SUM(cents) AS s FROM lines\"\n0\n0\n1\n0\n0\n0\n"
unfolding serde_json_on_literals json_on_literals is_utf8 chars digits reserved_word
none_of_all = refl

-- FILTER: the members are all records, and the sum is over those that it keeps
filtered : text_of (part_values fields (query_of_one sum_above_2) four) ≡ codes "\"jlreport part 1\"\n\"shop:text,cents:int\"\n\"SELECT SUM(cents) FILTER (WHERE cents > 2) AS s FROM lines\"\n4\n1\n2\n\"not JSON\"\n1\n3\n5\n1\n"
unfolding serde_json_on_literals json_on_literals is_utf8 chars digits reserved_word four
filtered = refl

-- a line without a line feed, of which the value of a column is bad
bad_value : List ℕ
bad_value = codes "{\"cents\":\"5\"}"

refused : text_of (part_values fields (query_of_one sum) bad_value) ≡ codes "\"jlreport part 1\"\n\"shop:text,cents:int\"\n\"SELECT SUM(cents) AS s FROM lines\"\n1\n1\n1\n\"bad value in column cents\"\n1\n0\n0\n0\n"
unfolding serde_json_on_literals json_on_literals is_utf8 chars digits reserved_word bad_value
refused = refl

-- ---- inputs, one behind the other

closed_none : newline_terminated [] ≡ []
closed_none = refl

closed_ended : newline_terminated (codes "ab\n") ≡ codes "ab\n"
closed_ended = refl

closed_open : newline_terminated (codes "ab\n\nc") ≡ codes "ab\n\nc\n"
closed_open = refl

three : concatenated (codes "a" ∷ [] ∷ codes "b\nc\n" ∷ []) ≡ codes "a\nb\nc\n"
three = refl

-- the first two and then the third one, and the first one and then the other two
first_two : concatenated (concatenated (codes "a" ∷ codes "b" ∷ []) ∷ codes "c" ∷ []) ≡ codes "a\nb\nc\n"
first_two = refl

last_two : concatenated (codes "a" ∷ concatenated (codes "b" ∷ codes "c" ∷ []) ∷ []) ≡ codes "a\nb\nc\n"
last_two = refl

-- ---- inputs whose parts every join takes

columns_length : length (quoted (columns_text fields)) ≡ 21
unfolding json_on_literals
columns_length = refl

query_length : length (quoted (canonical_text (query sum by_shop))) ≡ 64
unfolding json_on_literals digits reserved_word
query_length = refl

-- the four lines, and an input without lines behind them
four_joined : CanBeJoined fields (query sum by_shop) (four ∷ [] ∷ [])
unfolding four
four_joined = record {
  some = λ none. let wrong = none in absurd cc;
  few = omega arith;
  columns = omega (arith, columns_length);
  query = omega (arith, query_length);
}

-- of no inputs there is no part
none_joined : CanBeJoined fields (query sum by_shop) [] → ⊥
none_joined can = can.some refl
