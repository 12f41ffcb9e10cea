use Rattle.std.proofs.Common.{◌≡◌, ◌∙◌, ◌++◌, arith, Bor, IfOk, List, None, Some, ap, map, rules, subst, sym, ℕ}
use Rattle.std.proofs.lemmas.Grind.{common_steps}
use Rattle.std.proofs.lemmas.Iterator.{YieldsList-from_slice}
use Rattle.std.proofs.lemmas.Iterator.Consumers.{map_from_collect}
use Rattle.std.proofs.lemmas.List.{append-nil, at_drop_all}
use Rattle.std.proofs.lemmas.Result.{IfOk-weaker}
use Rattle.std.proofs.lemmas.Slice.Zip.{AllZip-long}
use Rattle.semantics.specs.Sets.{sets_of}
use Rattle.values.specs.Datum.{data_of}
use Rattle.group_tables.specs.declared.group.Group.{Group}
use Rattle.group_tables.specs.GroupRows.{row_of}
use Rattle.semantics.specs.Rows.{rows_having_true}
use Rattle.report_rows.specs.Inside.Having.{AreHaving, IsHavingFor, having_truth}
use Rattle.report_rows.proofs.Keeping.{all-having_true, group-fits}
use Rattle.report_rows.proofs.Maps.{map-twice}
use Rattle.report_rows.proofs.RowScope.{having-of}
use Rattle.report_rows.proofs.RowValues.{within}
use Rattle.report_rows.proofs.having.rows_having_true.Goals as goal

pub returns-in_default : goal.returns-in_default
returns-in_default c =
    let fields = c.args.plan.now.fields in
    let t = c.args.plan.now.query in
    let unwritten : t.having_condition ≡ None = subst (AreHaving c.args.plan.now) c.in_default.is c.in_ok-conditions.ensures in
    let now = λ (r : Bor (ℕ × Group)). r.now in
    let gathered : IfOk c.collect.result (λ v. map now v.items ≡ c.args.rows.now) = map_from_collect {s = c.iter.result} c.collect.result c.collect.ensures.ran (YieldsList-from_slice c.args.rows.now (search rules)) in
    IfOk-weaker c.collect.result
    (λ v. map now v.items ≡ c.args.rows.now)
    (λ v. map (λ (r : Bor (ℕ × Group)). row_of r.now) v.items ≡ rows_having_true fields t (map row_of c.args.rows.now))
    (λ v h. sym (map-twice row_of now v.items) ∙ ap (map row_of) h ∙ sym (all-having_true fields t (map row_of c.args.rows.now) unwritten))
    gathered

pub index-requires : goal.index-requires
index-requires c =
    let plan = c.args.plan.now in
    let all : AreHaving plan (Some c.in-Some.conditions) = subst (AreHaving plan) c.in-Some.is c.in_ok-conditions.ensures in
    let fit = group-fits plan.fields plan.query c.args.rows.now c.loop-found.found-index c.found-item.result c.loop-found-test.true c.found-item.is c.requires in
    let below = within plan.fields plan.query (row_of c.found-item.result) fit in
    let many = AllZip-long (IsHavingFor plan) (sets_of plan.fields plan.query) c.in-Some.conditions.items all in
    omega (arith, below, many)

pub truth-requires : goal.truth-requires
truth-requires c =
    let plan = c.args.plan.now in
    let all : AreHaving plan (Some c.in-Some.conditions) = subst (AreHaving plan) c.in-Some.is c.in_ok-conditions.ensures in
    (having-of plan c.args.rows.now c.loop-found.found-index c.found-item.result c.in-Some.conditions c.index.result.now (data_of c.deref.result.now) c.loop-found-test.true c.found-item.is
    c.requires all c.index.ensures (ap data_of c.deref.ensures.value ∙ c.in_ok-put_row.ensures)).0

pub loop-found-preserved : goal.loop-found-preserved
loop-found-preserved c =
    let plan = c.args.plan.now in
    let all : AreHaving plan (Some c.in-Some.conditions) = subst (AreHaving plan) c.in-Some.is c.in_ok-conditions.ensures in
    let worth : c.truth.result ≡ having_truth plan (row_of c.found-item.result) =
    c.truth.ensures
    ∙ (having-of plan c.args.rows.now c.loop-found.found-index c.found-item.result c.in-Some.conditions c.index.result.now (data_of c.deref.result.now) c.loop-found-test.true c.found-item.is
    c.requires all c.index.ensures (ap data_of c.deref.ensures.value ∙ c.in_ok-put_row.ensures)).1 in
    grind (arith, common_steps, worth)

pub returns : goal.returns
returns c =
    let shown = map (λ (r : Bor (ℕ × Group)). row_of r.now) c.loop-found.true_rows.items in
    sym (append-nil shown)
    ∙ sym (at_drop_all (λ (rows : List (ℕ × Group)). shown ++ rows_having_true c.args.plan.now.fields c.args.plan.now.query (map row_of rows)) c.args.rows.now c.loop-found.found-index c.loop-found-test.false)
    ∙ c.loop-found.invariant
