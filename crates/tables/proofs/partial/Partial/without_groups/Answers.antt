use Rattle.std.proofs.Common.{◌≤◌, ◌∷◌, [], ℕ, List, ap, map, refl, ◌∙◌, arith}
use Rattle.std.proofs.lemmas.List.Elements.{All-same}
use Rattle.semantics.specs.declared.line_fault.LineFault.{LineFault}
use Rattle.query_resolve.specs.Functions.{indexed_functions}
use Rattle.semantics.specs.Sets.{grouping_places}
use Rattle.semantics.specs.Lists.{sorted_by}
use Rattle.tables.specs.Notes.{Noted, note_in, note_order}
use Rattle.tables.specs.declared.piece_refusals.PieceRefusals.{PieceRefusals}
use Rattle.tables.proofs.Merging.{one-note}
use Rattle.tables.proofs.Sound.{counted-more, empty-counted, empty-entries, empty-typed}
use Rattle.tables.proofs.partial.Partial.without_groups.Goals as goal

-- the note of one piece, of index 0
abbrev noted : ℕ → List (ℕ × LineFault) → Noted
noted count faults = record { index = 0; lines = count; refused = faults }

pub invariant_of-result : goal.invariant_of-result
invariant_of-result g c =
    let table = c.in_ok-table.table in
    let functions = c.in_ok-shape.shape.functions.items in
    let listed = c.in_ok-refusals.ensures ∙ c.as_slice.ensures.value in
    let notes = one-note c.in_ok-notes.notes.items _ c.in_ok-notes.ensures (All-same (λ line. line.0 ≤ c.args.lines) c.in_ok-refusals.refusals c.args.refused.items listed c.requires.numbered) in (
      c.requires.few,
      (
        (let n = c.len-count.ensures in let fewer = c.requires.fewer in let ok = c.args.refused.ok in grind (arith, n, fewer, ok)),
        (
          counted-more functions 0 c.args.lines table (omega arith) (empty-counted functions table c.in_ok-table.ensures),
          (
            notes.0,
            (notes.1, tt),
          ),
        ),
      ),
    )

pub returns-clause-sound : goal.returns-clause-sound
returns-clause-sound g c =
    let plan = c.args.plan.now in
    record {
      sets = c.in_ok-shape.ensures.sets;
      functions = c.in_ok-shape.ensures.functions;
      filters = c.in_ok-shape.ensures.filters;
      typed = empty-typed plan.fields (grouping_places plan.fields plan.query) (indexed_functions plan.fields plan.query) c.in_ok-table.table c.in_ok-table.ensures;
    }

pub returns-clause-refusals : goal.returns-clause-refusals
returns-clause-refusals g c = record {
  lines = refl;
  refused = (let n = c.len-count.ensures in let ok = c.args.refused.ok in omega (arith, n, ok));
  notes = ap (λ (ns : List PieceRefusals). sorted_by note_order (map note_in ns)) c.in_ok-notes.ensures ∙ ap (λ (ls : List (ℕ × LineFault)). noted c.args.lines ls ∷ []) (c.in_ok-refusals.ensures ∙ c.as_slice.ensures.value);
}

pub returns-clause-groups : goal.returns-clause-groups
returns-clause-groups g c = empty-entries c.in_ok-table.table c.in_ok-table.ensures

pub returns-clause-within : goal.returns-clause-within
returns-clause-within g c = empty-counted c.in_ok-shape.shape.functions.items c.in_ok-table.table c.in_ok-table.ensures
