-- Parts that are read, computed on examples.
use Rattle.std.proofs.Common.{◌≡◌, pos, false, List, [], ◌∷◌, ◌++◌, codes, refl, None, Some, Ok, Err}
use Rattle.std.specs.Fmt.{digits}
use Rattle.std.specs.Prelude.{⊤}
use Rattle.std.specs.Str.{is_utf8, chars}
use Rattle.json.proofs.OnLiterals.{json_on_literals}
use Rattle.serde_json.proofs.OnLiterals.{serde_json_on_literals}
use Rattle.semantics.specs.Columns.{Field}
use Rattle.semantics.specs.Syntax.{Query, function, over_all}
use Rattle.semantics.specs.Words.{reserved_word}
use Rattle.semantics.specs.declared.aggregate.Aggregate.TheVariants as aggregate
use Rattle.semantics.specs.declared.kind.Kind.TheVariants as kind
use Rattle.semantics.specs.GroupStates.{summed}
use Rattle.semantics.specs.declared.line_fault.LineFault.TheVariants.{NoJson}
use Rattle.part_lines.specs.Reading.{count_at, count_within, each_at, group_at, in_turn, members_at, next_key_at, number_at, summed_at, value_at}
use Rattle.hex.specs.Hex.{encode_with}
use Rattle.sha2.specs.Sha256.{sha256, digest_bytes, hash_after, compress, rounds, schedule, first_words}
use Rattle.parts.specs.Shown.{all_visible, first_of, shortened}
use Rattle.part_lines.specs.Faults.{ends_too_early, no_part, not_a_part, other_columns, other_version, out_of_range, wrong_checksum}
use Rattle.parts.specs.ReadingParts.{checksum_at, contents_at, header_of, mark_at, other_at, part_at, parts_at, parts_from, said_at, text_at, lines_at, refused_line_at, refused_at, all_refused_at, group_count_at}

-- cents:int
abbrev fields : List Field
fields = record { name = codes "cents"; kind = kind.Int } ∷ []

-- SELECT SUM(cents) AS s FROM lines
abbrev query : Query
query = record {
  items = record { expression = function (over_all (aggregate.Sum (codes "cents"))); alias = Some (codes "s") } ∷ [];
  where_condition = None;
  distinct_sets = false;
  groups = [];
  having_condition = None;
  keys = [];
}

-- what an example unfolds to be computed
unfoldable reading_on_literals : ⊤
unfolding serde_json_on_literals json_on_literals is_utf8 chars digits reserved_word parts_from part_at header_of mark_at value_at said_at other_at text_at contents_at lines_at refused_line_at refused_at all_refused_at group_count_at count_at number_at count_within group_at next_key_at members_at each_at in_turn summed_at checksum_at shortened all_visible encode_with sha256 digest_bytes hash_after compress rounds schedule first_words
reading_on_literals = tt

nothing : parts_at fields query [] ≡ Err (record { part = 1; line = 1; kind = no_part })
nothing = refl

-- a line that is no value
no_value : parts_at fields query (codes "hello" ∷ []) ≡ Err (record { part = 1; line = 1; kind = not_a_part })
unfolding reading_on_literals
no_value = refl

-- a later version
version_2 : parts_at fields query (codes "\"jlreport part 2\"" ∷ []) ≡ Err (record { part = 1; line = 1; kind = other_version (codes "2") })
unfolding reading_on_literals
version_2 = refl

-- a version has no leading zero, and 0 is one
version_01 : parts_at fields query (codes "\"jlreport part 01\"" ∷ []) ≡ Err (record { part = 1; line = 1; kind = not_a_part })
unfolding reading_on_literals
version_01 = refl

version_0 : parts_at fields query (codes "\"jlreport part 0\"" ∷ []) ≡ Err (record { part = 1; line = 1; kind = other_version (codes "0") })
unfolding reading_on_literals
version_0 = refl

-- other columns
other_columns_at : parts_at fields query (codes "\"jlreport part 1\"" ∷ codes "\"cents:text\"" ∷ []) ≡ Err (record { part = 1; line = 2; kind = other_columns (codes "\"cents:text\"") })
unfolding reading_on_literals
other_columns_at = refl

-- their text has U+0080, which is not shown
hidden_columns : parts_at fields query (codes "\"jlreport part 1\"" ∷ (codes "\"a" ++ 0xC2 ∷ 0x80 ∷ codes "\"") ∷ []) ≡ Err (record { part = 1; line = 2; kind = other_columns (codes "\"a\\u0080\"") })
unfolding reading_on_literals
hidden_columns = refl

-- the first characters of a text
four_of_four : first_of 4 (codes "cent") ≡ codes "cent"
unfolding reading_on_literals
four_of_four = refl

four_of_five : first_of 4 (codes "cents") ≡ codes "cent.."
unfolding reading_on_literals
four_of_five = refl

-- only a mark
too_early : parts_at fields query (codes "\"jlreport part 1\"" ∷ []) ≡ Err (record { part = 1; line = 2; kind = ends_too_early })
unfolding reading_on_literals
too_early = refl

-- more refused lines than lines
more_refused : parts_at fields query (codes "\"jlreport part 1\"" ∷ codes "\"cents:int\"" ∷ codes "\"SELECT SUM(cents) AS s FROM lines\"" ∷ codes "2" ∷ codes "3" ∷ []) ≡ Err (record { part = 1; line = 5; kind = out_of_range })
unfolding reading_on_literals
more_refused = refl

-- one part
whole_part : parts_at fields query (codes "\"jlreport part 1\"" ∷ codes "\"cents:int\"" ∷ codes "\"SELECT SUM(cents) AS s FROM lines\"" ∷ codes "2" ∷ codes "1" ∷ codes "2" ∷ codes "\"not JSON\"" ∷ codes "1" ∷ codes "1" ∷ codes "5" ∷ codes "1" ∷ codes "\"b058abad0e6fbecfb105dce456b4f4b4672ef6df6106f0d817db08eac7fdd143\"" ∷ []) ≡ Ok (record { lines = 2; refused = (2, NoJson) ∷ []; groups = record { key = []; members = 1; states = summed (pos 5) 1 ∷ [] } ∷ [] } ∷ [])
unfolding reading_on_literals
whole_part = refl

-- another checksum
other_checksum : parts_at fields query (codes "\"jlreport part 1\"" ∷ codes "\"cents:int\"" ∷ codes "\"SELECT SUM(cents) AS s FROM lines\"" ∷ codes "2" ∷ codes "1" ∷ codes "2" ∷ codes "\"not JSON\"" ∷ codes "1" ∷ codes "1" ∷ codes "5" ∷ codes "1" ∷ codes "\"00\"" ∷ []) ≡ Err (record { part = 1; line = 12; kind = wrong_checksum })
unfolding reading_on_literals
other_checksum = refl
