use Rattle.std.proofs.Common.{List, ap, ◌∙◌, arith, refl}
use Rattle.semantics.specs.GroupStates.{entries_over}
use Rattle.semantics.specs.Conditions.{kept_records}
use Rattle.semantics.specs.ResultRows.{aggregate_functions}
use Rattle.semantics.specs.Groups.{Record}
use Rattle.semantics.specs.Sets.{grouping_places}
use Rattle.tables.specs.Notes.{notes_in}
use Rattle.tables.specs.Pieces.{records_of}
use Rattle.tables.proofs.Cutting.{cut-records}
use Rattle.tables.proofs.Following.{count-lines, refused-in_order}
use Rattle.tables.proofs.Standing.{has-from}
use Rattle.tables.proofs.partial.Partial.into_contents.Goals as goal

pub number-requires-clause-few : goal.number-requires-clause-few
number-requires-clause-few c = let counted = c.self.inside.counted in let few = c.self.inside.few in omega (arith, counted, few)

pub number-requires-clause-numbered : goal.number-requires-clause-numbered
number-requires-clause-numbered c = c.self.inside.numbered

pub returns : goal.returns
returns c = λ plan input given.
    let self = c.self.inside in
    let p = has-from plan _ (notes_in c.self.inside.notes) given.pieces refl (c.self.view_is ∙ given.stands) in
    let grouping = grouping_places plan.fields plan.query in
    let fs = aggregate_functions plan.fields plan.query in
    let lines = p.lines ∙ count-lines input given.pieces given.cut in
    let refused = refused-in_order plan.fields input given.pieces (notes_in self.notes) c.in_ok-refused_lines.refused_lines.items given.cut p.notes c.in_ok-refused_lines.ensures in
    let groups = c.in_ok-groups.ensures
    ∙ c.entries_law.ensures.of_records grouping fs self.table (kept_records plan.fields plan.query (records_of plan.fields given.pieces)) p.table
    ∙ ap (λ (rows : List Record). entries_over grouping fs (kept_records plan.fields plan.query rows)) (cut-records plan.fields input given.pieces given.cut) in
    λ i. record { lines = lines i; refused = refused i; groups = groups i }
