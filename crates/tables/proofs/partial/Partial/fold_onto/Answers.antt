use Rattle.std.proofs.Common.{◌≡◌, ◌+◌, ◌++◌, ◌∷◌, [], List, length, map, refl, sym, ap, subst, ◌∙◌, arith}
use Rattle.std.proofs.Math.Logic.{∥∥₁_elim, ∥∥₁_map}
use Rattle.std.proofs.Props.{props}
use Rattle.std.proofs.lemmas.List.{map-append}
use Rattle.semantics.specs.Lines.{lines}
use Rattle.group_tables.specs.Bags.{SameBag}
use Rattle.semantics.specs.Groups.{Record}
use Rattle.group_tables.specs.Table.{IsCounted, IsTableOf}
use Rattle.query_resolve.specs.declared.function.FilteredFunction.{FilteredFunction}
use Rattle.semantics.specs.Sets.{grouping_places}
use Rattle.semantics.specs.Conditions.{kept_records}
use Rattle.tables.specs.declared.piece_refusals.PieceRefusals.{PieceRefusals}
use Rattle.tables.specs.Folding.{valid_records_of}
use Rattle.tables.specs.Laws.{pieces-append}
use Rattle.tables.specs.Notes.{Noted, note_in, note_of, notes_in}
use Rattle.tables.specs.Partials.{both, of_piece}
use Rattle.tables.specs.Pieces.{IndexedPiece, all_lines, records_of}
use Rattle.tables.specs.States.{PartialState}
use Rattle.semantics.specs.ResultRows.{aggregate_functions}
use Rattle.tables.proofs.Sound.{table-counted}
use Rattle.tables.proofs.Standing.{has-from, partials-prop, stands-from}
use Rattle.tables.proofs.Growing.{few-records, lines-more, notes-more, one-noted_more, records-more, refused-more}
use Rattle.tables.proofs.Reading.{length-kept_behind, length-refused_of}
use Rattle.tables.proofs.partial.Partial.fold_onto.Goals as goal

pub read_onto-requires : goal.read_onto-requires
read_onto-requires c =
    let plan = c.args.plan.now in
    ∥∥₁_map c.requires.of_plan (λ s.
    let p = has-from plan _ (notes_in c.self.inside.notes) s.0 refl (c.self.view_is ∙ s.1) in
    let few = few-records plan.fields s.0 in
    let count : c.args.self.lines ≡ length (all_lines s.0) = ap (λ (v : PartialState). v.lines) s.1 in
    record { before = records_of plan.fields s.0; is_table = p.table; few = omega (arith, few, count, c.requires.few) })

pub overflow_add-result : goal.overflow_add-result
overflow_add-result c =
    let same : c.self.inside.lines ≡ c.args.self.lines = ap (λ (v : PartialState). v.lines) c.self.view_is in
    let count = c.in_ok-folding.ensures.lines in
    omega (arith, count, same, c.requires.few)

pub overflow_add-result-2 : goal.overflow_add-result-2
overflow_add-result-2 c =
    let same : c.self.inside.lines ≡ c.args.self.lines = ap (λ (v : PartialState). v.lines) c.self.view_is in
    let read = c.in_ok-folding.ensures in
    let count = read.lines in
    let listed = read.refused in
    let fewer = c.self.inside.fewer in
    let m = length-refused_of c.args.plan.now.fields (lines c.args.piece.now) in
    omega (arith, listed, m, count, fewer, same, c.requires.few)

pub invariant_of-result : goal.invariant_of-result
invariant_of-result c =
    let plan = c.args.plan.now in
    let self = c.self.inside in
    let folding = c.in_ok-folding.folding in
    let ls = lines c.args.piece.now in
    let same : self.lines ≡ c.args.self.lines = ap (λ (v : PartialState). v.lines) c.self.view_is in
    let read = c.in_ok-folding.ensures in
    let count = read.lines in
    let listed = read.refused in
    let note : PieceRefusals = record { index = c.args.index; lines = folding.lines; refused = folding.refusals } in
    let noted = one-noted_more self.notes.items c.push.new.self.items note self.lines c.in_ok-push.ensures.items self.counted self.numbered read.numbered in (
      omega (arith, count, same, c.requires.few),
      (
        (let fewer = self.fewer in let m = length-refused_of plan.fields ls in omega (arith, listed, m, count, fewer)),
        (
          ∥∥₁_elim c.requires.of_plan (hlevel props) (λ s.
              let p = has-from plan _ (notes_in c.self.inside.notes) s.0 refl (c.self.view_is ∙ s.1) in
              subst (λ (fs : List FilteredFunction). IsCounted (self.lines + folding.lines) fs folding.table) (sym p.functions)
              (table-counted plan folding.table (kept_records plan.fields plan.query (records_of plan.fields s.0 ++ valid_records_of plan.fields ls)) (self.lines + folding.lines) (read.read (records_of plan.fields s.0) p.table).table
              (let few = length-kept_behind plan (records_of plan.fields s.0) ls in let records = few-records plan.fields s.0 in let before = p.lines in omega (arith, few, records, before, count)))),
          (
            noted.0,
            (noted.1, tt),
          ),
        ),
      ),
    )

pub returns : goal.returns
returns c = ∥∥₁_elim c.requires.of_plan (partials-prop _ _) (λ s.
    let plan = c.args.plan.now in
    let self = c.self.inside in
    let pieces = s.0 in
    let p = has-from plan _ (notes_in self.notes) pieces refl (c.self.view_is ∙ s.1) in
    let folding = c.in_ok-folding.folding in
    let bytes = c.args.piece.now in
    let piece : IndexedPiece = record { index = c.args.index; bytes = bytes } in
    let read = c.in_ok-folding.ensures.read (records_of plan.fields pieces) p.table in
    stands-from plan _ (map note_in c.push.new.self.items) (pieces ++ piece ∷ []) refl
    (record {
      sets = p.sets;
      functions = p.functions;
      filters = p.filters;
      table = subst (λ (rows : List Record). IsTableOf (grouping_places plan.fields plan.query) (aggregate_functions plan.fields plan.query) folding.table (kept_records plan.fields plan.query rows)) (sym (records-more plan.fields pieces c.args.index bytes)) read.table;
      lines = (let x = p.lines in let y = read.lines in let z = lines-more pieces c.args.index bytes in omega (arith, x, y, z));
      refused = (let x = p.refused in let y = read.count in let z = refused-more plan.fields pieces c.args.index bytes in omega (arith, x, y, z));
      notes = subst (λ (ns : List Noted). SameBag (map (note_of plan.fields) (pieces ++ record { index = c.args.index; bytes = bytes } ∷ [])) ns)
          (sym (ap (map note_in) c.in_ok-push.ensures.items ∙ map-append note_in self.notes.items _))
          (notes-more plan.fields pieces (map note_in self.notes.items) c.args.index bytes folding.lines folding.refusals read.lines read.refused p.notes);
    })
    ∙ pieces-append plan pieces (piece ∷ [])
    ∙ ap (λ v. both v (of_piece plan piece)) (sym s.1))
