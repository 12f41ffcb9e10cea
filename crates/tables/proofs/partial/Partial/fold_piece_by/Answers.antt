use Rattle.std.proofs.Common.{◌∷◌, [], List, map, refl, sym, ap, subst, arith}
use Rattle.semantics.specs.Lines.{lines}
use Rattle.semantics.specs.Sets.{grouping_places}
use Rattle.semantics.specs.Conditions.{kept_records}
use Rattle.tables.specs.Folding.{valid_records_of}
use Rattle.group_tables.specs.Bags.{SameBag}
use Rattle.semantics.specs.Groups.{Record}
use Rattle.group_tables.specs.Table.{IsCounted, IsTableOf}
use Rattle.query_resolve.specs.declared.function.FilteredFunction.{FilteredFunction}
use Rattle.tables.specs.Notes.{Noted, note_in, note_of}
use Rattle.semantics.specs.ResultRows.{aggregate_functions}
use Rattle.tables.proofs.Growing.{lines-more, notes-more, records-more, refused-more}
use Rattle.tables.proofs.Merging.{one-note}
use Rattle.tables.proofs.Reading.{length-valid_of, length-kept, length-lines, length-refused_of}
use Rattle.tables.proofs.Sound.{table-counted}
use Rattle.tables.proofs.Standing.{stands-from}
use Rattle.tables.proofs.partial.Partial.fold_piece_by.Goals as goal

pub read_onto-requires : goal.read_onto-requires
read_onto-requires g c = ∣ record {
  before = [];
  is_table = c.in_ok-empty.ensures;
  few = (let short = length-lines c.args.piece.now in omega (arith, short, c.requires));
} ∣₁

pub invariant_of-result : goal.invariant_of-result
invariant_of-result g c =
    let plan = c.args.plan.now in
    let shape = c.in_ok-shape.shape in
    let ls = lines c.args.piece.now in
    let read = c.in_ok-table.ensures.read [] c.in_ok-empty.ensures in
    let folding = c.in_ok-table.field-0 in
    let valid = length-valid_of plan.fields ls in
    let few = length-kept plan (valid_records_of plan.fields ls) in
    let count = read.lines in
    let short = length-lines c.args.piece.now in
    let notes = one-note c.in_ok-notes.notes.items _ c.in_ok-notes.ensures c.in_ok-table.ensures.numbered in (
      omega (arith, count, short, c.requires),
      (
        (let r = c.in_ok-table.ensures.refused in let m = length-refused_of plan.fields ls in omega (arith, r, m, count)),
        (
          subst (λ (fs : List FilteredFunction). IsCounted folding.lines fs folding.table) (sym c.in_ok-shape.ensures.functions)
              (table-counted plan folding.table (kept_records plan.fields plan.query (valid_records_of plan.fields ls)) folding.lines read.table (omega (arith, valid, few, count))),
          (
            notes.0,
            (notes.1, tt),
          ),
        ),
      ),
    )

pub returns : goal.returns
returns g c =
    let plan = c.args.plan.now in
    let bytes = c.args.piece.now in
    let folding = c.in_ok-table.field-0 in
    let read = c.in_ok-table.ensures.read [] c.in_ok-empty.ensures in
    stands-from plan _ (map note_in c.in_ok-notes.notes.items) (record { index = c.args.index; bytes = bytes } ∷ []) refl (record {
      sets = c.in_ok-shape.ensures.sets;
      functions = c.in_ok-shape.ensures.functions;
      filters = c.in_ok-shape.ensures.filters;
      table = subst (λ (rows : List Record). IsTableOf (grouping_places plan.fields plan.query) (aggregate_functions plan.fields plan.query) folding.table (kept_records plan.fields plan.query rows)) (sym (records-more plan.fields [] c.args.index bytes)) read.table;
      lines = (let y = read.lines in let z = lines-more [] c.args.index bytes in omega (arith, y, z));
      refused = (let y = read.count in let z = refused-more plan.fields [] c.args.index bytes in omega (arith, y, z));
      notes = subst (λ (ns : List Noted). SameBag (map (note_of plan.fields) (record { index = c.args.index; bytes = bytes } ∷ [])) ns)
          (sym (ap (map note_in) c.in_ok-notes.ensures))
          (notes-more plan.fields [] [] c.args.index bytes folding.lines folding.refusals read.lines read.refused (λ f. refl));
    })
