use Rattle.std.proofs.Common.{ap, map, List, drop, ◌+◌, sym, subst, ◌∙◌}
use Rattle.query_ast.specs.Syntax.{predicate_form}
use Rattle.semantics.specs.Syntax.{predicate_forms}
use Rattle.query_typecheck.specs.Typing.{IsTypedPredicate}
use Rattle.semantics.specs.Conditions.{all_of, any_of, truth, truths}
use Rattle.query_eval.specs.declared.condition.Condition.{Condition}
use Rattle.query_eval.proofs.Forms.{and-worth, and_form, column_form, or-worth, or_form}
use Rattle.query_eval.proofs.Parts.{AreBound, bound-more}
use Rattle.query_eval.proofs.binder.+bind.Goals as goal

pub bind_parts-loop-part-preserved : goal.bind_parts-loop-part-preserved
bind_parts-loop-part-preserved g t c =
    let scope = g.S.Scope.form c.args.scope.now in
    let all = c.args.parts.now in
    let i = c.loop-part.part-index in
    subst (λ (made : List Condition). AreBound scope made (drop (i + 1) all) all) (sym c.in_ok-push.ensures.items)
    (bound-more scope c.loop-part.conditions.items c.in_ok-bind.field-0 c.part-item.result all i c.loop-part-test.true c.part-item.is
    c.in_ok-bind.ensures.value c.in_ok-bind.ensures.safe c.loop-part.invariant)

pub bind-returns-in_ok-bind_parts-in-Or-clause-value : goal.bind-returns-in_ok-bind_parts-in-Or-clause-value
bind-returns-in_ok-bind_parts-in-Or-clause-value g t c = λ values.
    or-worth c.in_ok-bind_parts-in-Or.field-0 values ∙ ap any_of (c.in_ok-bind_parts-in-Or.ensures.value values)
    ∙ ap (λ parts. any_of (truths ((g.S.Scope.form c.args.scope.now).value values) (predicate_forms (map predicate_form parts)))) c.deref.ensures.value
    ∙ ap (truth ((g.S.Scope.form c.args.scope.now).value values)) (sym (or_form c.in-Or.parts))
    ∙ ap (λ p. truth ((g.S.Scope.form c.args.scope.now).value values) (predicate_form p)) (sym c.in-Or.is)

pub bind-returns-in_ok-bind_parts-in-And-clause-value : goal.bind-returns-in_ok-bind_parts-in-And-clause-value
bind-returns-in_ok-bind_parts-in-And-clause-value g t c = λ values.
    and-worth c.in_ok-bind_parts-in-And.field-0 values ∙ ap all_of (c.in_ok-bind_parts-in-And.ensures.value values)
    ∙ ap (λ parts. all_of (truths ((g.S.Scope.form c.args.scope.now).value values) (predicate_forms (map predicate_form parts)))) c.deref-in-And.ensures.value
    ∙ ap (truth ((g.S.Scope.form c.args.scope.now).value values)) (sym (and_form c.in-And.parts))
    ∙ ap (λ p. truth ((g.S.Scope.form c.args.scope.now).value values) (predicate_form p)) (sym c.in-And.is)

pub bind-returns-in-Column-clause-safe : goal.bind-returns-in-Column-clause-safe
bind-returns-in-Column-clause-safe g t c = λ grouped typed values are.
    c.bind_column.ensures.safe grouped
    (subst (IsTypedPredicate (g.S.Scope.form c.args.scope.now).fields grouped (g.S.Scope.form c.args.scope.now).clause) (ap predicate_form c.in-Column.is ∙ column_form c.in-Column.name) typed)
    values are
