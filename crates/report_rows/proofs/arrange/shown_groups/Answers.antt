use Rattle.std.proofs.Common.{◌∙◌, Bor, ℕ, map, refl}
use Rattle.std.proofs.lemmas.Result.{IfOk-weaker}
use Rattle.group_tables.specs.declared.group.Group.{Group}
use Rattle.group_tables.specs.GroupRows.{row_of}
use Rattle.report_rows.proofs.Arranged.{arranged-sets, true-arranged, true-fit}
use Rattle.report_rows.proofs.arrange.shown_groups.Goals as goal

pub put_in_order-requires-clause-fit : goal.put_in_order-requires-clause-fit
put_in_order-requires-clause-fit g c = true-fit c.args.plan.now (map row_of c.args.groups.now) (map row_of c.args.groups.now) (map (λ (r : Bor (ℕ × Group)). row_of r.now) c.in_ok-unordered.unordered.items) refl c.in_ok-unordered.ensures c.requires.fit

pub returns : goal.returns
returns g c =
    let plan = c.args.plan.now in
    let found = (map row_of c.args.groups.now) in
    let known = true-arranged plan found (map row_of c.args.groups.now) (map (λ (r : Bor (ℕ × Group)). row_of r.now) c.in_ok-unordered.unordered.items) refl c.in_ok-unordered.ensures in
    record {
      shown = IfOk-weaker c.put_in_order.result _ _ (λ v e. e ∙ known) c.put_in_order.ensures;
      sets = IfOk-weaker c.put_in_order.result _ _ (λ v e. arranged-sets plan found v.items (e ∙ known) c.requires.fit) c.put_in_order.ensures;
    }
