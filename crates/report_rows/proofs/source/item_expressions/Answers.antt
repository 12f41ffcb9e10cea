use Rattle.std.proofs.Common.{◌≡◌, ◌∙◌, Bor, map, ap, refl, sym, take_all}
use Rattle.semantics.specs.Syntax.{SelectItem, Query}
use Rattle.query_ast.specs.declared.expression.Expression.{Expression}
use Rattle.query_ast.specs.declared.tree.Item.{Item}
use Rattle.query_ast.specs.Syntax.{expression_form, item_form}
use Rattle.report_rows.proofs.Maps.{map-pushed, map-twice}
use Rattle.report_rows.proofs.source.item_expressions.Goals as goal

pub loop-item-preserved : goal.loop-item-preserved
loop-item-preserved c =
    map-pushed (λ (e : Bor Expression). expression_form e.now) (λ (item : Item). expression_form item.expression) c.as_slice-items.result.now c.loop-item.item-index c.item-item.result
    c.loop-item.expressions.items c.push.new.self.items _ c.loop-item-test.true c.item-item.is c.in_ok-push.ensures.items refl c.loop-item.invariant

pub returns : goal.returns
returns c =
    let items = c.as_slice-items.result.now in
    let tree : map item_form items ≡ c.args.plan.now.query.items = ap (map item_form) c.as_slice-items.ensures.value ∙ ap (λ (f : Query). f.items) (c.tree.ensures.form ∙ c.query.ensures.query) in
    c.loop-item.invariant
    ∙ ap (map (λ (item : Item). expression_form item.expression)) (take_all c.loop-item.item-index items c.loop-item-test.false)
    ∙ sym (map-twice (λ (item : SelectItem). item.expression) item_form items)
    ∙ ap (map (λ (item : SelectItem). item.expression)) tree
