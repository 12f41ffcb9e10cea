use Rattle.std.proofs.Common.{◌≡◌, ◌∙◌, ◌+◌, ◌++◌, ◌∷◌, [], List, take, sym, ap, subst}
use Rattle.std.specs.Borrow.{Bor}
use Rattle.std.proofs.lemmas.List.{map-append, take_more}
use Rattle.values.specs.Schema.{fields_of}
use Rattle.query_ast.specs.declared.expression.Predicate.{Predicate}
use Rattle.semantics.specs.Syntax as syntax
use Rattle.query_ast.specs.Syntax.{predicate_form}
use Rattle.query_resolve.specs.Planning.{filter_forms}
use Rattle.query_eval.specs.Binding.{AreConditionsOf}
use Rattle.query_eval.specs.declared.condition.Condition.{Condition}
use Rattle.query_eval.proofs.FilterConditions.{conditions_push, filter_condition}
use Rattle.query_eval.proofs.filter_clause.bind_filters.Goals as goal

pub loop-filter-preserved : goal.loop-filter-preserved
loop-filter-preserved c =
    let fields = fields_of c.args.columns.now in
    let all = c.args.filters.now in
    let i = c.loop-filter.filter-index in
    let filter = c.filter-item.result in
    let made = c.loop-filter.conditions.items in
    let more : filter_forms (take (i + 1) all) ≡ filter_forms (take i all) ++ predicate_form filter.now ∷ [] =
    ap filter_forms (take_more all i filter c.loop-filter-test.true ∙ ap (λ (p : Bor Predicate). take i all ++ p ∷ []) (sym c.filter-item.is))
    ∙ map-append (λ (p : Bor Predicate). predicate_form p.now) (take i all) (filter ∷ []) in
    subst (λ (ps : List syntax.Predicate). AreConditionsOf fields ps c.push.new.self.items) (sym more)
    (subst (λ (cs : List Condition). AreConditionsOf fields (filter_forms (take i all) ++ predicate_form filter.now ∷ []) cs) (sym c.in_ok-push.ensures.items)
    (conditions_push fields (filter_forms (take i all)) made (predicate_form filter.now) c.in_ok-bind.field-0 c.loop-filter.invariant
    (filter_condition fields (predicate_form filter.now) c.in_ok-bind.field-0 c.in_ok-bind.ensures.value c.in_ok-bind.ensures.safe)))
