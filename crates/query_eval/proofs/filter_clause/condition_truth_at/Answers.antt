use Rattle.std.proofs.Common.{◌∙◌, Some, ap}
use Rattle.values.specs.Datum.{data_of}
use Rattle.semantics.specs.declared.truth.Truth.{Truth}
use Rattle.query_eval.proofs.FilterConditions.{safe_at, worth_at}
use Rattle.query_eval.proofs.filter_clause.condition_truth_at.Goals as goal

pub truth-requires : goal.truth-requires
truth-requires c = safe_at c.args.conditions.now c.args.place c.index-conditions-place.result (data_of c.args.values.now) c.requires.place c.index-conditions-place.is c.requires.safe

pub returns : goal.returns
returns c =
    ap (λ (t : Truth). Some t) c.truth.ensures
    ∙ worth_at c.args.conditions.now c.args.place c.index-conditions-place.result (data_of c.args.values.now) c.requires.place c.index-conditions-place.is
