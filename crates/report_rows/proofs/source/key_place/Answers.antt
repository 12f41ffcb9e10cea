use Rattle.std.proofs.Common.{rules, tests, ◌∙◌, ◌==◌, ℕ, List, Option, ap, slice_index_or}
use Rattle.std.specs.Option.{option_map_or}
use Rattle.std.proofs.lemmas.Iterator.{YieldsList-from_slice}
use Rattle.std.proofs.lemmas.Iterator.Search.{position_from_yields_List}
use Rattle.semantics.specs.Values.{null}
use Rattle.values.specs.Schema.{fields_of}
use Rattle.semantics.specs.Names.{place_of}
use Rattle.semantics.specs.Rows.{value_in}
use Rattle.report_rows.proofs.RowValues.{position-within}
use Rattle.report_rows.proofs.source.key_place.Goals as goal

pub returns-in-Some-clause-shown : goal.returns-in-Some-clause-shown
returns-in-Some-clause-shown c =
    let found = position_from_yields_List (λ column. column == c.in-Some.place) _ _ _ c.position.ensures.ran (YieldsList-from_slice c.args.set.now (search rules)) (λ x b q k. search (rules, tests)) in
    λ key.
    ap (λ (o : Option ℕ). option_map_or (λ at. slice_index_or key at null) o null) found
    ∙ ap (λ (o : Option ℕ). option_map_or (value_in c.args.set.now key) o null) c.in-Some.ensures
    ∙ ap (λ (n : List ℕ). option_map_or (value_in c.args.set.now key) (place_of (fields_of c.args.columns.now) n) null) c.as_str.ensures

pub returns-in-Some-clause-within : goal.returns-in-Some-clause-within
returns-in-Some-clause-within c =
    position-within (λ column. column == c.in-Some.place) c.args.set.now _
    (position_from_yields_List (λ column. column == c.in-Some.place) _ _ _ c.position.ensures.ran (YieldsList-from_slice c.args.set.now (search rules)) (λ x b q k. search (rules, tests)))
