use Rattle.std.proofs.Common.{◌≡◌, drop, fold, map, true}
use Rattle.std.specs.List.{list_all}
use Rattle.values.specs.Datum.{data_of}
use Rattle.semantics.specs.Truth.{conjunction, disjunction}
use Rattle.query_eval.specs.Meaning.{condition_truth, is_safe}
use Rattle.semantics.specs.Conditions.{all_of, any_of}
use Rattle.query_eval.proofs.condition.+truth.Given as goal

abbrev pub invariant-any_truth-loop-part : goal.invariant-any_truth-loop-part
invariant-any_truth-loop-part l = record {
  told : fold disjunction l.found (map (λ truth. truth (data_of l.values)) (map condition_truth (drop l.part-index l.parts))) ≡ any_of (map (λ truth. truth (data_of l.values)) (map condition_truth l.parts));
  safe : list_all (λ is_safe. is_safe (data_of l.values)) (map is_safe (drop l.part-index l.parts)) ≡ true;
}

abbrev pub invariant-all_truth-loop-part : goal.invariant-all_truth-loop-part
invariant-all_truth-loop-part l = record {
  told : fold conjunction l.found (map (λ truth. truth (data_of l.values)) (map condition_truth (drop l.part-index l.parts))) ≡ all_of (map (λ truth. truth (data_of l.values)) (map condition_truth l.parts));
  safe : list_all (λ is_safe. is_safe (data_of l.values)) (map is_safe (drop l.part-index l.parts)) ≡ true;
}
