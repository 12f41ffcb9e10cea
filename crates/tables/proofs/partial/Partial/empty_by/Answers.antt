use Rattle.std.proofs.Common.{List, [], ap, map, refl, sym, subst, arith}
use Rattle.semantics.specs.Lists.{sorted_by}
use Rattle.query_resolve.specs.declared.function.FilteredFunction.{FilteredFunction}
use Rattle.group_tables.specs.Table.{IsCounted}
use Rattle.tables.specs.Notes.{note_in, note_order}
use Rattle.tables.specs.declared.piece_refusals.PieceRefusals.{PieceRefusals}
use Rattle.tables.proofs.Merging.{no-notes}
use Rattle.tables.proofs.Sound.{table-counted}
use Rattle.tables.proofs.Standing.{stands-from}
use Rattle.tables.proofs.partial.Partial.empty_by.Goals as goal

pub invariant_of-result : goal.invariant_of-result
invariant_of-result g c =
    let plan = c.args.plan.now in
    let shape = c.in_ok-shape.shape in
    let table = c.in_ok-table.table in
    let none = no-notes c.new.result.items c.new.ensures.items in (
      omega arith,
      (
        omega arith,
        (
          subst (λ (fs : List FilteredFunction). IsCounted 0 fs table) (sym c.in_ok-shape.ensures.functions)
              (table-counted plan table [] 0 c.in_ok-table.ensures (omega arith)),
          (
            none.0,
            (none.1, tt),
          ),
        ),
      ),
    )

pub returns : goal.returns
returns g c = stands-from c.args.plan.now _ [] [] (ap (λ (ns : List PieceRefusals). sorted_by note_order (map note_in ns)) c.new.ensures.items) (record {
  sets = c.in_ok-shape.ensures.sets;
  functions = c.in_ok-shape.ensures.functions;
  filters = c.in_ok-shape.ensures.filters;
  table = c.in_ok-table.ensures;
  lines = refl;
  refused = refl;
  notes = λ _. refl;
})
