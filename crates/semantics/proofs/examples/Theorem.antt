-- The example of docs/THEOREM.md, computed: from the bytes to the report.
use Rattle.std.proofs.Common.{◌≡◌, ℕ, pos, false, List, [], ◌∷◌, codes, refl, None, Some, Ok, Err}
use Rattle.std.specs.Fmt.{digits}
use Rattle.std.specs.Str.{is_utf8, chars}
use Rattle.serde_json.proofs.OnLiterals.{serde_json_on_literals}
use Rattle.semantics.specs.Words.{reserved_word}
use Rattle.csv.specs.Writing.{fields_text, is_blank}
use Rattle.semantics.specs.Columns.{Field, schema_of}
use Rattle.semantics.specs.Lines.{lines}
use Rattle.semantics.specs.Records.{decode_line, valid_records, refused_lines}
use Rattle.semantics.specs.Sets.{sets_of}
use Rattle.semantics.specs.Groups.{Record, keys, members}
use Rattle.semantics.specs.Aggregates.{plain}
use Rattle.semantics.specs.ResultRows.{rows_before_having}
use Rattle.semantics.specs.Faults.{query_faults}
use Rattle.semantics.specs.Run.{report, refusals}
use Rattle.semantics.specs.Syntax.{Query, name, function, over_all, rollup}
use Rattle.semantics.specs.Values.{whole, text, null}
use Rattle.semantics.specs.declared.aggregate.Aggregate.TheVariants as aggregate
use Rattle.semantics.specs.declared.kind.Kind.TheVariants as kind
use Rattle.semantics.specs.declared.line_fault.LineFault.TheVariants.{NoJson}

-- shop:text,cents:int
abbrev fields : List Field
fields = record { name = codes "shop"; kind = kind.Text } ∷ record { name = codes "cents"; kind = kind.Int } ∷ []

columns-read : schema_of (codes "shop:text,cents:int") ≡ Ok fields
columns-read = refl

-- SELECT shop, SUM(cents) AS s FROM lines GROUP BY ROLLUP (shop)
abbrev query : Query
query = record {
  items = record { expression = name (codes "shop"); alias = None }
      ∷ record { expression = function (over_all (aggregate.Sum (codes "cents"))); alias = Some (codes "s") } ∷ [];
  where_condition = None;
  distinct_sets = false;
  groups = rollup ((codes "shop" ∷ []) ∷ []) ∷ [];
  having_condition = None;
  keys = [];
}

nothing-wrong : query_faults fields query ≡ []
unfolding query_faults reserved_word
nothing-wrong = refl

abbrev input : List ℕ
input = codes "{\"shop\":\"Harbour\",\"cents\":5}\nnot JSON\n{\"shop\":\"Harbour\",\"cents\":2}\n{\"cents\":1}\n"

-- 1. the lines
four-lines : lines input ≡ codes "{\"shop\":\"Harbour\",\"cents\":5}" ∷ codes "not JSON" ∷ codes "{\"shop\":\"Harbour\",\"cents\":2}" ∷ codes "{\"cents\":1}" ∷ []
four-lines = refl

abbrev records : List Record
records = (text (codes "Harbour") ∷ whole (pos 5) ∷ []) ∷ (text (codes "Harbour") ∷ whole (pos 2) ∷ []) ∷ (null ∷ whole (pos 1) ∷ []) ∷ []

-- 3. the valid records and the refused lines
three-records : valid_records fields input ≡ records
unfolding serde_json_on_literals is_utf8 chars
three-records = refl

one-refused : refused_lines fields input ≡ (2, NoJson) ∷ []
unfolding serde_json_on_literals is_utf8 chars
one-refused = refl

-- 5. the grouping sets
two-sets : sets_of fields query ≡ (0 ∷ []) ∷ [] ∷ []
two-sets = refl

-- 8. the groups
three-groups : rows_before_having fields query records
    ≡ (0, record { key = text (codes "Harbour") ∷ []; lines = 2; cells = plain (whole (pos 7)) ∷ [] })
    ∷ (0, record { key = null ∷ []; lines = 1; cells = plain (whole (pos 1)) ∷ [] })
    ∷ (1, record { key = []; lines = 3; cells = plain (whole (pos 8)) ∷ [] }) ∷ []
three-groups = refl

-- 11. the bytes
the-report : report fields query input ≡ codes "shop,s\nHarbour,7\n\\N,1\n\\N,8\n"
unfolding serde_json_on_literals is_utf8 chars digits fields_text is_blank reserved_word
the-report = refl

the-refusals : refusals fields input ≡ codes "line 2: not JSON\n"
unfolding serde_json_on_literals is_utf8 chars digits
the-refusals = refl
