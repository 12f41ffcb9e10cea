use Rattle.std.proofs.Common.{◌≡◌, ◌∙◌, List, map, ap, refl, subst, sym, [], take_all}
use Rattle.semantics.specs.Sets.{sets_of}
use Rattle.semantics.specs.Syntax.{Expression, SelectItem, SortKey, Query}
use Rattle.semantics.specs.Types.{key_expression}
use Rattle.query_ast.specs.Syntax.{item_form, key_form}
use Rattle.report_rows.specs.Inside.SortEntries.{AreTelling, CodedForm, coded_form}
use Rattle.report_rows.specs.Inside.Sources.{AreSourcesBySet}
use Rattle.report_rows.proofs.CodedKeys.{telling-more}
use Rattle.report_rows.proofs.telling_keys.telling_keys.Goals as goal

pub loop-key-init : goal.loop-key-init
loop-key-init c = subst (λ (cs : List CodedForm). AreTelling cs [] c.args.plan.now.fields c.args.plan.now.query) (ap (map coded_form) (sym c.new-kept.ensures.items)) (λ x y at_x at_y. refl)

pub loop-key-preserved : goal.loop-key-preserved
loop-key-preserved c =
    let plan = c.args.plan.now in
    let t = plan.query in
    let key = c.key-item.result in
    let sources = c.in_ok-sources.sources.items in
    let items : map item_form c.as_slice-items.result.now ≡ t.items = ap (map item_form) c.as_slice-items.ensures.value ∙ ap (λ (f : Query). f.items) (c.tree.ensures.form ∙ c.query.ensures.query) in
    let expression = c.key_expression-expression.ensures ∙ ap (λ (is : List SelectItem). key_expression is (key_form key).expression) items in
    let each : AreSourcesBySet plan (key_expression t.items (key_form key).expression) (sets_of plan.fields t) sources =
    subst (λ (e : Expression). AreSourcesBySet plan e (sets_of plan.fields t) sources) expression c.in_ok-sources.ensures in
    telling-more plan c.as_slice-keys.result.now c.loop-key.key-index key (map coded_form c.loop-key.kept.items) (map coded_form c.keep_key.new.kept.items) sources
    c.loop-key-test.true c.key-item.is c.in_ok-keep_key.ensures each c.loop-key.invariant

pub returns : goal.returns
returns c =
    let plan = c.args.plan.now in
    let keys = c.as_slice-keys.result.now in
    let all = take_all c.loop-key.key-index keys c.loop-key-test.false in
    let tree : map key_form keys ≡ plan.query.keys = ap (map key_form) c.as_slice-keys.ensures.value ∙ ap (λ (f : Query). f.keys) (c.tree-2.ensures.form ∙ c.query-2.ensures.query) in
    subst (λ (ks : List SortKey). AreTelling (map coded_form c.loop-key.kept.items) ks plan.fields plan.query) (ap (map key_form) all ∙ tree) c.loop-key.invariant
