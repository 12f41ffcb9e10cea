use Rattle.std.proofs.Common.{◌≡◌, ◌∙◌, ◌==◌, ℕ, List, map, ap}
use Rattle.std.specs.Prelude.{if◌then◌else◌}
use Rattle.std.specs.List.{flat_map}
use Rattle.semantics.specs.Columns.{Field}
use Rattle.values.specs.Schema.{fields_of}
use Rattle.query_ast.specs.declared.group.GroupingElement.{GroupingElement}
use Rattle.query_ast.specs.Syntax.{element_form, tree_form}
use Rattle.query_resolve.specs.declared.function.FilteredFunction.{FilteredFunction}
use Rattle.semantics.specs.Names.{group_names, places_of}
use Rattle.semantics.specs.Lists.{distinct}
use Rattle.semantics.specs.Sets.{expansion, grouping_places, ordered_set, same_columns, sets_of}
use Rattle.query_resolve.specs.Functions.{indexed_functions}
use Rattle.query_resolve.specs.Resolution.{contents, Resolution}
use Rattle.query_typecheck.proofs.resolution.resolve.Goals as goal

pub returns-clause-resolved : goal.returns-clause-resolved
returns-clause-resolved c =
    let t = tree_form c.args.tree.now in
    let fields = c.args.schema.now in
    let read = fields_of c.columns-columns.result.now in
    let same : read ≡ fields = c.columns-columns.ensures.columns in
    let grouping : c.in_ok-grouping.grouping.items ≡ grouping_places fields t =
    c.in_ok-grouping.ensures
    ∙ ap (λ (gs : List GroupingElement). distinct (λ a b. a == b) (places_of read (flat_map group_names (map element_form gs)))) c.deref.ensures.value
    ∙ ap (λ (fs : List Field). grouping_places fs t) same in
    let functions : c.in_ok-functions.functions.items ≡ indexed_functions fields t = c.in_ok-functions.ensures.functions ∙ ap (λ (fs : List Field). indexed_functions fs t) same in
    let kept : List (List ℕ) → List (List ℕ) = λ all. if t.distinct_sets then distinct same_columns all else all in
    let sets : contents c.in_ok-sets.sets.items ≡ sets_of fields t =
    c.in_ok-sets.ensures
    ∙ ap kept (
    ap (λ (g : List ℕ). map (λ names. ordered_set g (places_of read names)) (expansion (map element_form c.deref-4.result.now))) (c.deref-3.ensures.value ∙ grouping)
    ∙ ap (λ (gs : List GroupingElement). map (λ names. ordered_set (grouping_places fields t) (places_of read names)) (expansion (map element_form gs))) c.deref-4.ensures.value
    ∙ ap (λ (fs : List Field). map (λ names. ordered_set (grouping_places fields t) (places_of fs names)) (expansion t.groups)) same
    ) in
    let made : List ℕ → List (List ℕ) → List FilteredFunction → Resolution = λ g s f. record { grouping = g; sets = s; functions = f } in
    ap (λ (g : List ℕ). made g (contents c.in_ok-sets.sets.items) c.in_ok-functions.functions.items) grouping
    ∙ ap (λ (s : List (List ℕ)). made (grouping_places fields t) s c.in_ok-functions.functions.items) sets
    ∙ ap (λ (f : List FilteredFunction). made (grouping_places fields t) (sets_of fields t) f) functions
