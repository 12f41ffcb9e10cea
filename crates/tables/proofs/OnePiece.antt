-- A result over an input as one piece, and a front and the rest behind it, put together.
use Rattle.std.proofs.Common.{◌≡◌, ◌+◌, [], ◌∷◌, ◌++◌, ℕ, List, length, map, refl, sym, ap, subst, ◌∙◌, arith}
use Rattle.lines.specs.Pieces.{AreWholeLines}
use Rattle.lines.proofs.Fronts.{refused-whole_lines}
use Rattle.semantics.specs.Conditions.{kept_records}
use Rattle.semantics.specs.ResultRows.{aggregate_functions}
use Rattle.semantics.specs.Groups.{Record}
use Rattle.semantics.specs.Lines.{lines}
use Rattle.semantics.specs.Lists.{sorted_by}
use Rattle.semantics.specs.Records.{refused_lines}
use Rattle.semantics.specs.Sets.{grouping_places}
use Rattle.semantics.specs.declared.line_fault.LineFault.{LineFault}
use Rattle.query_plan.specs.Planned.{PlannedQuery}
use Rattle.group_tables.specs.Table.{IsTableOf, both_tables}
use Rattle.group_tables.proofs.Joint.{both_tables-has}
use Rattle.group_tables.proofs.Meaning.{table-joined}
use Rattle.tables.specs.Laws.{kept-append}
use Rattle.tables.specs.Notes.{note_of, note_order, refused_lines_from}
use Rattle.tables.specs.Partials.{HasOwnIndexes, StandsFor, StandsForInput, as_one, concatenation, note_of_one, notes_of_one, numbered_lines, of_piece, one_piece, whole_piece}
use Rattle.tables.specs.Pieces.{records_of}
use Rattle.tables.specs.States.{PartialState}
use Rattle.tables.proofs.Cutting.{cut-refused}
use Rattle.tables.proofs.Following.{count-lines, followed-count, followed-lines, followed-records, one-lines, one-noted, one-piece, one-records, one-refused, whole-lines}
use Rattle.tables.proofs.Numbered.{notes-in_order, own-in_order}
use Rattle.tables.proofs.Standing.{Has, has-from, stands-from}

module _ (plan : PlannedQuery) (partial : PartialState) (input : List ℕ) (given : StandsForInput plan partial input) where
  noted : partial.notes ≡ sorted_by note_order (map (note_of plan.fields) given.pieces)
  noted = ap (λ (p : PartialState). p.notes) given.stands

  has : Has plan partial (map (note_of plan.fields) given.pieces) given.pieces
  has = has-from plan partial (map (note_of plan.fields) given.pieces) given.pieces noted given.stands

  -- its refused lines are those of the input
  pub numbered-input : numbered_lines partial ≡ refused_lines plan.fields input
  numbered-input =
      ap (refused_lines_from 0) (noted ∙ notes-in_order plan.fields given.pieces given.cut.in_order) ∙ cut-refused plan.fields input given.pieces given.cut

  -- so many lines
  pub lines-input : partial.lines ≡ length (lines input)
  lines-input = has.lines ∙ count-lines input given.pieces given.cut

  -- and no two of its pieces have one index
  pub own-input : HasOwnIndexes partial
  own-input =
      subst (λ (p : PartialState). HasOwnIndexes p) (sym given.stands) (own-in_order plan.fields given.pieces given.cut.in_order)

  pub one-stands : StandsFor plan (as_one partial) (one_piece input)
  one-stands =
      stands-from plan (as_one partial) (map (note_of plan.fields) (one_piece input)) (one_piece input)
      ((λ i. notes_of_one (lines-input i) (numbered-input i)) ∙ one-noted plan.fields input)
      (record {
        sets = has.sets;
        functions = has.functions;
        filters = has.filters;
        table = subst (λ (rows : List Record). IsTableOf (grouping_places plan.fields plan.query) (aggregate_functions plan.fields plan.query) partial.table (kept_records plan.fields plan.query rows))
            (sym (one-records plan.fields input given.pieces given.cut)) has.table;
        lines = has.lines ∙ sym (one-lines input given.pieces given.cut);
        refused = has.refused ∙ sym (one-refused plan.fields input given.pieces given.cut);
        notes = λ _. refl;
      })

abbrev shift : ℕ → ℕ × LineFault → ℕ × LineFault
shift n line = (n + line.0, line.1)

pub behind-stands : (plan : PlannedQuery) (front rest : PartialState) (before after : List ℕ) → StandsForInput plan front before → StandsForInput plan rest after → AreWholeLines before
    → StandsFor plan (concatenation front rest) (whole_piece (before ++ after))
behind-stands plan front rest before after given other whole =
    let fields = plan.fields in
    let grouping = grouping_places fields plan.query in
    let fs = aggregate_functions fields plan.query in
    let input = before ++ after in
    let first = has plan front before given in
    let second = has plan rest after other in
    let rows : kept_records fields plan.query (records_of fields (whole_piece input))
    ≡ kept_records fields plan.query (records_of fields given.pieces) ++ kept_records fields plan.query (records_of fields other.pieces) =
    ap (kept_records fields plan.query)
    (followed-records fields before after given.pieces other.pieces whole given.cut other.cut)
    ∙ kept-append plan (records_of fields given.pieces) (records_of fields other.pieces) in
    let count = lines-input plan front before given in
    let more = lines-input plan rest after other in
    let all = followed-lines before after given.pieces other.pieces whole given.cut other.cut in
    let many : front.lines + rest.lines ≡ length (lines input) = (let x = first.lines in let y = second.lines in omega (arith, x, y, all)) in
    let numbered : numbered_lines front ++ map (shift front.lines) (numbered_lines rest) ≡ refused_lines fields input =
    (λ i. numbered-input plan front before given i ++ map (shift (count i)) (numbered-input plan rest after other i))
    ∙ sym (refused-whole_lines fields before after whole) in
    stands-from plan (concatenation front rest) (map (note_of fields) (whole_piece input)) (whole_piece input)
    (λ i. note_of_one (many i) (numbered i) ∷ [])
    (record {
      sets = first.sets;
      functions = first.functions;
      filters = first.filters;
      table = subst (λ (rs : List Record). IsTableOf grouping fs (both_tables front.table rest.table) rs) (sym rows)
          (table-joined grouping fs front.table rest.table (both_tables front.table rest.table) (kept_records fields plan.query (records_of fields given.pieces))
          (kept_records fields plan.query (records_of fields other.pieces)) first.table second.table (both_tables-has front.table rest.table));
      lines = (let line = whole-lines input in omega (arith, many, line));
      refused = (let x = first.refused in
          let y = second.refused in
          let z = followed-count fields before after given.pieces other.pieces whole given.cut other.cut in
          omega (arith, x, y, z));
      notes = λ _. refl;
    })

-- ---- where no index stands twice

-- what is a result as one piece stands for what that stands for
pub as_one-stands : (plan : PlannedQuery) (before front : PartialState) → (HasOwnIndexes before → front ≡ as_one before)
    → (input : List ℕ) → StandsForInput plan before input → StandsFor plan front (one_piece input)
as_one-stands plan before front is input given = is (own-input plan before input given) ∙ one-stands plan before input given

-- and what is a front and the bytes behind it stands for both
pub rest-stands : (plan : PlannedQuery) (before sum : PartialState) (rest : List ℕ)
    → (HasOwnIndexes before → sum ≡ concatenation before (of_piece plan (record { index = 0; bytes = rest })))
    → (front : List ℕ) → StandsForInput plan before front → AreWholeLines front → StandsFor plan sum (whole_piece (front ++ rest))
rest-stands plan before sum rest is front given whole =
    is (own-input plan before front given)
    ∙ behind-stands plan before (of_piece plan (record { index = 0; bytes = rest })) front rest given (record { pieces = whole_piece rest; stands = refl; cut = one-piece rest }) whole
