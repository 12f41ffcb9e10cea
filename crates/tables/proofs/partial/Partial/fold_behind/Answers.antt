use Rattle.std.proofs.Common.{◌≡◌, ◌+◌, ◌≤◌, [], ◌∷◌, ◌++◌, List, All, length, map, refl, sym, ap, subst, ◌∙◌, arith, append-nil}
use Rattle.std.proofs.Math.Logic.{∥∥₁_elim, ∥∥₁_map}
use Rattle.std.proofs.Props.{props}
use Rattle.semantics.specs.Lines.{lines}
use Rattle.semantics.specs.Lists.{sorted_by}
use Rattle.semantics.specs.Records.{refused_lines}
use Rattle.group_tables.specs.Table.{IsCounted}
use Rattle.query_resolve.specs.declared.function.FilteredFunction.{FilteredFunction}
use Rattle.semantics.specs.Conditions.{kept_records}
use Rattle.tables.specs.Folding.{valid_records_of}
use Rattle.tables.specs.Notes.{note_in, note_order, notes_in}
use Rattle.tables.specs.Partials.{HasOwnIndexes, concatenation, note_of_one, of_piece, whole_piece}
use Rattle.tables.specs.declared.piece_refusals.PieceRefusals.{PieceRefusals}
use Rattle.tables.specs.Pieces.{IndexedPiece, all_lines, records_of, refused_lines_within}
use Rattle.tables.specs.States.{PartialState}
use Rattle.tables.specs.contracts.partial.Partial as partial
use Rattle.tables.proofs.Sound.{table-counted}
use Rattle.tables.proofs.Following.{lines-within, numbers-behind, one-piece, whole-lines}
use Rattle.tables.proofs.Growing.{few-records}
use Rattle.tables.proofs.Merging.{one-note}
use Rattle.tables.proofs.NotesInOrder.{lines-own}
use Rattle.tables.proofs.OnePiece.{numbered-input}
use Rattle.tables.proofs.Reading.{length-kept_behind, length-refused_of, read-both}
use Rattle.tables.proofs.Standing.{concatenation-from, has-from, partials-prop}
use Rattle.tables.proofs.partial.Partial.fold_behind.Goals as goal

pub gather-requires-clause-few : goal.gather-requires-clause-few
gather-requires-clause-few c = let counted = c.self.inside.counted in let few = c.self.inside.few in omega (arith, counted, few)

pub gather-requires-clause-numbered : goal.gather-requires-clause-numbered
gather-requires-clause-numbered c = c.self.inside.numbered

pub read_onto-requires : goal.read_onto-requires
read_onto-requires c =
    let plan = c.args.plan.now in
    ∥∥₁_map c.requires.of_plan (λ s.
    let p = has-from plan _ (notes_in c.self.inside.notes) s.0 refl (c.self.view_is ∙ s.1) in
    let few = few-records plan.fields s.0 in
    let count : c.args.self.lines ≡ length (all_lines s.0) = ap (λ (v : PartialState). v.lines) s.1 in
    record { before = records_of plan.fields s.0; is_table = p.table; few = omega (arith, few, count, c.requires.few) })

pub put_behind-requires : goal.put_behind-requires
put_behind-requires c =
    let folding = c.in_ok-folding.folding in
    let same : c.self.inside.lines ≡ c.args.self.lines = ap (λ (v : PartialState). v.lines) c.self.view_is in
    let read = c.in_ok-folding.ensures in
    let count = read.lines in
    λ k d l. let w = read.numbered k d l in omega (arith, w, count, same, c.requires.few)

pub overflow_add-lines : goal.overflow_add-lines
overflow_add-lines c =
    let same : c.self.inside.lines ≡ c.args.self.lines = ap (λ (v : PartialState). v.lines) c.self.view_is in
    let count = c.in_ok-folding.ensures.lines in
    omega (arith, count, same, c.requires.few)

pub overflow_add-result : goal.overflow_add-result
overflow_add-result c =
    let same : c.self.inside.lines ≡ c.args.self.lines = ap (λ (v : PartialState). v.lines) c.self.view_is in
    let read = c.in_ok-folding.ensures in
    let count = read.lines in
    let listed = read.refused in
    let fewer = c.self.inside.fewer in
    let m = length-refused_of c.args.plan.now.fields (lines c.args.rest.now) in
    omega (arith, listed, m, count, fewer, same, c.requires.few)

pub invariant_of-result : goal.invariant_of-result
invariant_of-result c =
    let plan = c.args.plan.now in
    let self = c.self.inside in
    let folding = c.in_ok-folding.folding in
    let ls = lines c.args.rest.now in
    let same : self.lines ≡ c.args.self.lines = ap (λ (v : PartialState). v.lines) c.self.view_is in
    let read = c.in_ok-folding.ensures in
    let count = read.lines in
    let listed = read.refused in
    let found = c.in_ok-gathered.gathered in
    let low : All (λ line. line.0 ≤ self.lines) found = subst (λ n. All (λ line. line.0 ≤ n) found) self.counted (lines-within (notes_in self.notes) found self.numbered c.in_ok-gathered.ensures) in
    let within = numbers-behind self.lines folding.lines found folding.refusals c.put_behind.new.self low read.numbered c.in_ok-put_behind.ensures in
    let notes = one-note c.in_ok-notes.notes.items _ c.in_ok-notes.ensures within in (
      omega (arith, count, same, c.requires.few),
      (
        (let fewer = self.fewer in let m = length-refused_of plan.fields ls in omega (arith, listed, m, count, fewer)),
        (
          ∥∥₁_elim c.requires.of_plan (hlevel props) (λ s.
              let p = has-from plan _ (notes_in c.self.inside.notes) s.0 refl (c.self.view_is ∙ s.1) in
              subst (λ (fs : List FilteredFunction). IsCounted (self.lines + folding.lines) fs folding.table) (sym p.functions)
              (table-counted plan folding.table (kept_records plan.fields plan.query (records_of plan.fields s.0 ++ valid_records_of plan.fields ls)) (self.lines + folding.lines) (read.read (records_of plan.fields s.0) p.table).table
              (let few = length-kept_behind plan (records_of plan.fields s.0) ls in let records = few-records plan.fields s.0 in let before = p.lines in omega (arith, few, records, before, count)))),
          (
            notes.0,
            (notes.1, tt),
          ),
        ),
      ),
    )

pub returns : goal.returns
returns c = record {
  stands = λ own. ∥∥₁_elim c.requires.of_plan (partials-prop _ _) (λ s.
      let plan = c.args.plan.now in
      let self = c.self.inside in
      let rest = c.args.rest.now in
      let folding = c.in_ok-folding.folding in
      let piece : IndexedPiece = record { index = 0; bytes = rest } in
      let p = has-from plan _ (notes_in self.notes) s.0 refl (c.self.view_is ∙ s.1) in
      let read = c.in_ok-folding.ensures.read (records_of plan.fields s.0) p.table in
      let count : folding.lines ≡ length (all_lines (whole_piece rest)) = read.lines ∙ sym (whole-lines rest) in
      let refused : folding.refused ≡ length (refused_lines_within plan.fields (whole_piece rest)) =
      read.count ∙ ap length (sym (append-nil (refused_lines plan.fields rest))) in
      let first = lines-own (notes_in self.notes) c.in_ok-gathered.gathered (subst (λ (v : PartialState). HasOwnIndexes v) (sym c.self.view_is) own) c.in_ok-gathered.ensures in
      let second = read.refused ∙ sym (numbered-input plan (of_piece plan piece) rest (record { pieces = whole_piece rest; stands = refl; cut = one-piece rest })) in
      concatenation-from (partial.the_view self) (of_piece plan piece) _ refl refl refl
      (read-both plan self.table (records_of plan.fields s.0) folding rest p.table read)
      (ap (λ n. self.lines + n) count) (ap (λ n. self.refused + n) refused)
      (ap (λ (ns : List PieceRefusals). sorted_by note_order (map note_in ns)) c.in_ok-notes.ensures
      ∙ (λ i. note_of_one (self.lines + count i)
      ((c.in_ok-put_behind.ensures ∙ (λ j. first j ++ map (λ line. (self.lines + line.0, line.1)) (second j))) i) ∷ []))
      ∙ ap (λ v. concatenation v (of_piece plan piece)) c.self.view_is);
}
