use Rattle.std.proofs.Common.{◌≡◌, drop, fold, map, true}
use Rattle.std.specs.List.{list_all}
use Rattle.semantics.specs.declared.comparison.Op.TheVariants.{Eq}
use Rattle.semantics.specs.Values.{comparison}
use Rattle.values.specs.Datum.{datum_of}
use Rattle.semantics.specs.Truth.{disjunction}
use Rattle.query_eval.specs.Meaning.{comparable}
use Rattle.semantics.specs.Conditions.{member_truth}
use Rattle.query_eval.proofs.condition.member_truth.Given as goal

abbrev pub invariant-loop-other : goal.invariant-loop-other
invariant-loop-other l = record {
  told : fold disjunction l.found (map (comparison Eq (datum_of l.value)) (map datum_of (drop l.other-index l.values))) ≡ member_truth (datum_of l.value) (map datum_of l.values);
  safe : list_all (comparable (datum_of l.value)) (map datum_of (drop l.other-index l.values)) ≡ true;
}
