use Rattle.std.proofs.Common.{◌≡◌, ◌∙◌, true, List, length, map, ap, sym, subst}
use Rattle.std.proofs.lemmas.List.{length-map, take-map}
use Rattle.semantics.specs.Sets.{sets_of}
use Rattle.report_rows.specs.declared.coded_key.CodedKey.{CodedKey}
use Rattle.report_rows.specs.Inside.SortEntries.{AreEnough, CodedForm, are_default_behind, coded_form}
use Rattle.report_rows.proofs.CodedKeys.{enough-in-front, enough-telling}
use Rattle.report_rows.proofs.telling_keys.coded_keys.Goals as goal

pub returns-then-sets-ne1 : goal.returns-then-sets-ne1
returns-then-sets-ne1 c = enough-telling (map coded_form c.in_ok-keys.keys.items) c.args.plan.now.fields c.args.plan.now.query c.in_ok-keys.ensures

pub returns : goal.returns
returns c =
    let fields = c.args.plan.now.fields in
    let t = c.args.plan.now.query in
    let keys = c.in_ok-keys.keys.items in
    let count = c.keys_in_front-count.result in
    let single : length (sets_of fields t) ≡ 1 = ap length (sym c.sets.ensures.sets) ∙ length-map c.sets.result.now (λ s. s.items) ∙ c.if-sets-ne1.false in
    let behind : are_default_behind count (map coded_form keys) ≡ true = ap (λ (ks : List CodedKey). are_default_behind count (map coded_form ks)) (sym c.as_slice.ensures.value) ∙ c.keys_in_front-count.ensures.behind in
    subst (λ (cs : List CodedForm). AreEnough cs fields t) (take-map coded_form count keys ∙ ap (map coded_form) (sym c.truncate.ensures.items))
    (enough-in-front (map coded_form keys) fields t count c.in_ok-keys.ensures single behind)
