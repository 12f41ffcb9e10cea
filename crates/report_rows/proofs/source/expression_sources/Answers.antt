use Rattle.std.proofs.Common.{◌≡◌, ◌∙◌, ◌++◌, ◌<◌, ◌≤◌, ℕ, List, [], ◌∷◌, length, get_or, map, take, take_all, ap, sym, arith}
use Rattle.std.specs.Global.{Vec}
use Rattle.std.proofs.lemmas.List.{get_or-map, length-map, map-append, map_more}
use Rattle.semantics.specs.Aggregates.{CellValue}
use Rattle.semantics.specs.Rows.{expression_value}
use Rattle.query_ast.specs.Syntax.{expression_form}
use Rattle.query_resolve.specs.Resolution.{contents}
use Rattle.report_rows.specs.Sources.{shown_at}
use Rattle.report_rows.proofs.source.expression_sources.Goals as goal

pub loop-set-preserved : goal.loop-set-preserved
loop-set-preserved c = λ key cells.
    let shown : List ℕ → CellValue = λ set. expression_value c.args.plan.now.fields c.args.plan.now.query set key cells (expression_form c.args.expression.now) in
    let lists = c.sets-set-items.result.now in
    let sets = contents lists in
    let i = c.loop-set.set-index in
    let n = length-map lists (λ (s : Vec ℕ). s.items) in
    let test = c.loop-set-test.true in
    let below : i < length sets = omega (arith, test, n) in
    let is : c.deref.result.now ≡ get_or sets i [] = c.deref.ensures.value ∙ ap (λ (s : Vec ℕ). s.items) c.set-item.is ∙ sym (get_or-map (λ (s : Vec ℕ). s.items) lists i c.set-item.result [] test) in
    ap (map (shown_at key cells)) c.in_ok-push.ensures.items
    ∙ map-append (shown_at key cells) c.loop-set.sources.items (c.source_of-source.result ∷ [])
    ∙ (λ k. c.loop-set.invariant key cells k ++ (c.source_of-source.ensures.shown key cells k ∷ []))
    ∙ (λ k. map shown (take i sets) ++ (shown (is k) ∷ []))
    ∙ sym (map_more shown sets i [] below)

pub returns : goal.returns
returns c = λ key cells.
    let shown : List ℕ → CellValue = λ set. expression_value c.args.plan.now.fields c.args.plan.now.query set key cells (expression_form c.args.expression.now) in
    let lists = c.sets-set-items.result.now in
    let i = c.loop-set.set-index in
    let n = length-map lists (λ (s : Vec ℕ). s.items) in
    let test = c.loop-set-test.false in
    let end : length (contents lists) ≤ i = omega (arith, test, n) in
    c.loop-set.invariant key cells ∙ ap (map shown) (take_all i (contents lists) end ∙ c.sets-set-items.ensures.sets)
