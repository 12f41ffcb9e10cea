use Rattle.std.proofs.Common.{◌≡◌, ◌∙◌, ◌++◌, ◌+◌, Bor, [], ◌∷◌, map, ap, sym, take, take_all}
use Rattle.std.proofs.lemmas.List.{map-append, take_more}
use Rattle.query_ast.specs.declared.expression.Expression.{Expression}
use Rattle.query_ast.specs.Syntax.{expression_form}
use Rattle.report_rows.specs.Inside.Sources.{expression_forms}
use Rattle.report_rows.specs.Sources.{shown_at}
use Rattle.semantics.specs.Rows.{expression_value}
use Rattle.report_rows.proofs.source.sources_of.Goals as goal

pub loop-expression-preserved : goal.loop-expression-preserved
loop-expression-preserved c = λ key cells.
    let shown = expression_value c.args.plan.now.fields c.args.plan.now.query c.args.set.now key cells in
    let all = c.args.expressions.now in
    let i = c.loop-expression.expression-index in
    let one = c.expression-item.result in
    let form = λ (e : Bor Expression). expression_form e.now in
    let more : expression_forms (take (i + 1) all) ≡ expression_forms (take i all) ++ form one ∷ [] =
    ap expression_forms (take_more all i one c.loop-expression-test.true ∙ ap (λ (e : Bor Expression). take i all ++ e ∷ []) (sym c.expression-item.is))
    ∙ map-append form (take i all) (one ∷ []) in
    ap (map (shown_at key cells)) c.in_ok-push.ensures.items
    ∙ map-append (shown_at key cells) c.loop-expression.sources.items (c.source_of.result ∷ [])
    ∙ (λ k. c.loop-expression.invariant key cells k ++ (c.source_of.ensures.shown key cells k ∷ []))
    ∙ sym (map-append shown (expression_forms (take i all)) (form one ∷ []))
    ∙ ap (map shown) (sym more)

pub returns : goal.returns
returns c = λ key cells.
    c.loop-expression.invariant key cells
    ∙ ap (λ es. map (expression_value c.args.plan.now.fields c.args.plan.now.query c.args.set.now key cells) (expression_forms es)) (take_all c.loop-expression.expression-index c.args.expressions.now c.loop-expression-test.false)
