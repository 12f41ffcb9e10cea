use Rattle.std.proofs.Common.{map, ap, sym, subst, ◌∙◌}
use Rattle.std.proofs.Math.Logic.{∥∥₁_elim}
use Rattle.semantics.specs.Conditions.{kept_records}
use Rattle.semantics.specs.Sets.{grouping_places}
use Rattle.query_resolve.specs.Functions.{indexed_functions}
use Rattle.tables.specs.Notes.{note_of}
use Rattle.tables.specs.Pieces.{records_of}
use Rattle.tables.specs.Sound.{IsTypedTableUnder}
use Rattle.tables.specs.States.{PartialState}
use Rattle.tables.proofs.OneSound.{sound-prop}
use Rattle.tables.proofs.Sound.{table-typed, typed-both}
use Rattle.tables.proofs.Standing.{has-from}
use Rattle.tables.proofs.Taken.{kept-fits}
use Rattle.tables.proofs.laws.sound_law.Goals as goal

pub returns-clause-of_pieces : goal.returns-clause-of_pieces
returns-clause-of_pieces c = λ plan partial given.
    ∥∥₁_elim given (sound-prop plan partial) (λ s.
    let has = has-from plan partial (map (note_of plan.fields) s.0) s.0 (ap (λ (p : PartialState). p.notes) s.1) s.1 in
    record {
      sets = has.sets;
      functions = has.functions;
      filters = has.filters;
      typed = table-typed plan partial.table (kept_records plan.fields plan.query (records_of plan.fields s.0)) has.table (kept-fits plan s.0);
    })

pub returns-clause-of_both : goal.returns-clause-of_both
returns-clause-of_both c = λ plan first second a b. record {
  sets = a.sets;
  functions = a.functions;
  filters = a.filters;
  typed = typed-both plan.fields (grouping_places plan.fields plan.query) (indexed_functions plan.fields plan.query) first.table second.table a.typed b.typed;
}

pub returns-clause-of_notes : goal.returns-clause-of_notes
returns-clause-of_notes c = λ plan before partial a differs. record {
  sets = sym differs.shape.sets ∙ a.sets;
  functions = sym differs.shape.functions ∙ a.functions;
  filters = sym differs.shape.filters ∙ a.filters;
  typed = subst (IsTypedTableUnder plan) (sym differs.table) a.typed;
}
