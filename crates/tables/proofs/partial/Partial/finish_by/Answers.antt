use Rattle.std.proofs.Common.{◌∙◌, List, sym, ap, subst, refl}
use Rattle.query_resolve.specs.Functions.{indexed_functions}
use Rattle.group_tables.specs.Bags.{SameBag}
use Rattle.semantics.specs.Groups.{Record}
use Rattle.semantics.specs.ResultRows.{ResultRow, rows_before_having}
use Rattle.tables.specs.Notes.{notes_in}
use Rattle.tables.specs.Pieces.{AreNumbered, records_of}
use Rattle.tables.specs.Planned.{AreFittingUnder}
use Rattle.tables.specs.Sound.{IsTypedTableUnder}
use Rattle.tables.specs.States.{PartialState}
use Rattle.tables.proofs.Cutting.{cut-records, cut-refused}
use Rattle.tables.proofs.Numbered.{lines-in_order, lines-numbered, numbered-in_order}
use Rattle.tables.proofs.Sound.{counted-few}
use Rattle.tables.proofs.Standing.{has-from}
use Rattle.tables.proofs.partial.Partial.finish_by.Goals as goal

pub rows_of-requires-clause-few : goal.rows_of-requires-clause-few
rows_of-requires-clause-few g c =
    let self = c.self.inside in
    counted-few self.shape.functions.items (indexed_functions c.args.plan.now.fields c.args.plan.now.query) self.lines self.table
    (ap (λ (v : PartialState). v.functions) c.self.view_is ∙ c.requires.sound.functions) self.few self.within

pub new-requires : goal.new-requires
new-requires g c =
    let plan = c.args.plan.now in
    let typed = subst (λ (v : PartialState). IsTypedTableUnder plan v.table) (sym c.self.view_is) c.requires.sound.typed in
    record { fit = ∣ (plan, c.in_ok-rows.ensures.fit typed) ∣₁ }

pub returns : goal.returns
returns g c = record {
  rows = λ pieces given.
      let plan = c.args.plan.now in
      let p = has-from plan _ (notes_in c.self.inside.notes) pieces refl (c.self.view_is ∙ given) in
      subst (λ (fs : List ResultRow). SameBag fs (rows_before_having plan.fields plan.query (records_of plan.fields pieces))) (sym c.new.ensures.rows)
      (c.in_ok-rows.ensures.rows (records_of plan.fields pieces) p.table);
  fit =
      let plan = c.args.plan.now in
      let typed = subst (λ (v : PartialState). IsTypedTableUnder plan v.table) (sym c.self.view_is) c.requires.sound.typed in
      subst (AreFittingUnder plan) (sym c.new.ensures.rows) (c.in_ok-rows.ensures.fit typed);
  members = λ pieces given.
      let plan = c.args.plan.now in
      let p = has-from plan _ (notes_in c.self.inside.notes) pieces refl (c.self.view_is ∙ given) in
      let rows = records_of plan.fields pieces in
      c.members_law.ensures plan c.new.result rows
      (subst (λ (fs : List ResultRow). SameBag fs (rows_before_having plan.fields plan.query rows)) (sym c.new.ensures.rows)
      (c.in_ok-rows.ensures.rows rows p.table));
  numbered = λ pieces given own.
      let plan = c.args.plan.now in
      let p = has-from plan _ (notes_in c.self.inside.notes) pieces refl (c.self.view_is ∙ given) in
      subst (AreNumbered plan.fields pieces) (sym c.new.ensures.refused)
      (lines-numbered plan.fields pieces (notes_in c.self.inside.notes) c.in_ok-refused.refused.items own p.notes c.in_ok-refused.ensures);
  refused = λ pieces given o.
      let plan = c.args.plan.now in
      let p = has-from plan _ (notes_in c.self.inside.notes) pieces refl (c.self.view_is ∙ given) in
      c.new.ensures.refused
      ∙ lines-in_order plan.fields pieces (notes_in c.self.inside.notes) c.in_ok-refused.refused.items o p.notes c.in_ok-refused.ensures
      ∙ numbered-in_order plan.fields pieces o;
  whole = λ input pieces given w.
      let plan = c.args.plan.now in
      let p = has-from plan _ (notes_in c.self.inside.notes) pieces refl (c.self.view_is ∙ given) in
      record {
        rows = subst (λ (rows : List Record). SameBag c.new.result.found (rows_before_having plan.fields plan.query rows)) (cut-records plan.fields input pieces w)
            (subst (λ (fs : List ResultRow). SameBag fs (rows_before_having plan.fields plan.query (records_of plan.fields pieces))) (sym c.new.ensures.rows)
            (c.in_ok-rows.ensures.rows (records_of plan.fields pieces) p.table));
        refused = c.new.ensures.refused
            ∙ lines-in_order plan.fields pieces (notes_in c.self.inside.notes) c.in_ok-refused.refused.items w.in_order p.notes c.in_ok-refused.ensures
            ∙ cut-refused plan.fields input pieces w;
      };
}
