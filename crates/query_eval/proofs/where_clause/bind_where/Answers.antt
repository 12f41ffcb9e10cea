use Rattle.std.proofs.Common.{Option, Some, subst, sym}
use Rattle.std.specs.Option.{option_map}
use Rattle.values.specs.Schema.{fields_of}
use Rattle.query_ast.specs.declared.expression.Predicate.{Predicate}
use Rattle.query_ast.specs.Syntax.{predicate_form}
use Rattle.query_eval.specs.Binding.{IsConditionOf}
use Rattle.query_eval.proofs.FilterConditions.{filter_condition}
use Rattle.query_eval.proofs.where_clause.bind_where.Goals as goal

pub returns-in_ok-bind-in-Some : goal.returns-in_ok-bind-in-Some
returns-in_ok-bind-in-Some c =
    let fields = fields_of c.args.columns.now in
    let condition = c.in_ok-bind-in-Some.field-0 in
    let bound = c.in_ok-bind-in-Some.ensures in
    subst (λ (p : Option Predicate). IsConditionOf fields (option_map predicate_form p) (Some condition)) (sym c.in-Some.is)
    (filter_condition fields (predicate_form c.in-Some.predicate) condition bound.value bound.safe)
