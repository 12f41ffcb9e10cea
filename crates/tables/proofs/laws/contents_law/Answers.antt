use Rattle.std.proofs.Common.{List, ap, refl, subst, sym, ◌∙◌, append-nil, length, map}
use Rattle.semantics.specs.GroupStates.{entries_over}
use Rattle.query_resolve.specs.Functions.{indexed_functions}
use Rattle.semantics.specs.Aggregates.{AggregateFunction}
use Rattle.semantics.specs.Conditions.{kept_records}
use Rattle.semantics.specs.ResultRows.{aggregate_functions}
use Rattle.semantics.specs.Groups.{Record}
use Rattle.semantics.specs.Records.{refused_lines}
use Rattle.semantics.specs.Sets.{grouping_places}
use Rattle.group_tables.specs.Table.{IsTableOf}
use Rattle.tables.specs.Functions.{filter_tests}
use Rattle.tables.specs.Notes.{note_of}
use Rattle.tables.specs.Partials.{whole_piece}
use Rattle.tables.specs.Pieces.{records_of}
use Rattle.tables.proofs.Bound.{bound-functions}
use Rattle.tables.proofs.Cutting.{cut-records}
use Rattle.tables.proofs.Following.{one-piece, whole-lines}
use Rattle.tables.proofs.Standing.{stands-from}
use Rattle.tables.proofs.laws.contents_law.Goals as goal

pub returns : goal.returns
returns c = λ plan partial input sound has.
    let grouping = grouping_places plan.fields plan.query in
    let rows = kept_records plan.fields plan.query (records_of plan.fields (whole_piece input)) in
    let piece = one-piece input in
    let groups = has.groups
    ∙ ap (λ (rs : List Record). entries_over grouping (aggregate_functions plan.fields plan.query) (kept_records plan.fields plan.query rs)) (sym (cut-records plan.fields input (whole_piece input) piece))
    ∙ ap (λ (fs : List AggregateFunction). entries_over grouping fs rows) (sym (bound-functions plan)) in
    record {
      pieces = whole_piece input;
      stands = stands-from plan partial (map (note_of plan.fields) (whole_piece input)) (whole_piece input) has.refusals.notes (record {
        sets = sound.sets;
        functions = sound.functions;
        filters = sound.filters;
        table = subst (λ (fs : List AggregateFunction). IsTableOf grouping fs partial.table rows) (bound-functions plan)
            (c.entries_law.ensures.is_table plan.fields grouping (indexed_functions plan.fields plan.query) (filter_tests plan) partial.table rows sound.typed groups);
        lines = has.refusals.lines ∙ sym (whole-lines input);
        refused = has.refusals.refused ∙ ap length (sym (append-nil (refused_lines plan.fields input)));
        notes = λ _. refl;
      });
      cut = piece;
    }
