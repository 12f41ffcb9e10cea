use Rattle.std.proofs.Common.{◌≡◌, ◌++◌, drop, map, true}
use Rattle.std.specs.List.{list_all}
use Rattle.semantics.specs.declared.truth.Truth.TheVariants.{True}
use Rattle.values.specs.Datum.{data_of}
use Rattle.query_eval.specs.Meaning.{condition_truth, is_safe}
use Rattle.semantics.specs.Conditions.{same_truth}
use Rattle.query_eval.proofs.filter_clause.mark_conditions.Given as goal

abbrev pub invariant-loop-condition : goal.invariant-loop-condition
invariant-loop-condition l = record {
  told : l.marks.items ++ map (λ c. same_truth (condition_truth c (data_of l.values)) True) (drop l.condition-index l.conditions) ≡ map (λ c. same_truth (condition_truth c (data_of l.values)) True) l.conditions;
  safe : list_all (λ is_safe. is_safe (data_of l.values)) (map is_safe (drop l.condition-index l.conditions)) ≡ true;
}
