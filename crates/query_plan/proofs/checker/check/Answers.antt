use Rattle.std.proofs.Common.{◌≡◌, ◌∙◌, Some, ap, subst}
use Rattle.semantics.specs.Syntax.{Query}
use Rattle.query_resolve.specs.Functions.{filters_of}
use Rattle.query_resolve.specs.Resolution.{resolution_of}
use Rattle.query_typecheck.specs.FirstFaults.{query_fault}
use Rattle.query_typecheck.specs.Typing.{IsTyped}
use Rattle.query_typecheck.proofs.FaultHeads.{faultless_is_typed, first_of_faults}
use Rattle.query_eval.specs.Binding.{AreConditionsOf, IsConditionOf}
use Rattle.query_plan.proofs.checker.check.Goals as goal

pub new-requires-clause-typed : goal.new-requires-clause-typed
new-requires-clause-typed c = subst (λ (t : Query). IsTyped c.args.schema t) c.tree.ensures.form c.in-Ok.ensures.typed

pub new-requires-clause-resolution : goal.new-requires-clause-resolution
new-requires-clause-resolution c = c.in-Ok.ensures.resolved ∙ ap (resolution_of c.args.schema) c.tree.ensures.form

pub new-requires-clause-condition : goal.new-requires-clause-condition
new-requires-clause-condition c = subst (λ (t : Query). IsConditionOf c.args.schema t.where_condition c.in-Ok.condition) c.tree.ensures.form c.in-Ok.ensures.condition

pub new-requires-clause-filters : goal.new-requires-clause-filters
new-requires-clause-filters c = subst (λ (t : Query). AreConditionsOf c.args.schema (filters_of c.args.schema t) c.in-Ok.filters.items) c.tree.ensures.form c.in-Ok.ensures.filters

pub returns-in-Ok-clause-typed : goal.returns-in-Ok-clause-typed
returns-in-Ok-clause-typed c =
    let typed = subst (λ (t : Query). IsTyped c.args.schema t) c.tree.ensures.form c.in-Ok.ensures.typed in
    (faultless_is_typed c.args.schema c.args.query).1 typed

pub returns-in-Err-clause-fault : goal.returns-in-Err-clause-fault
returns-in-Err-clause-fault c = λ other.
    let told = subst (λ (t : Query). query_fault c.args.schema t ≡ Some c.in-Err.fault) c.tree.ensures.form (c.in-Err.ensures.fault other) in
    first_of_faults c.args.schema c.args.query ∙ told
