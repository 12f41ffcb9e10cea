use Rattle.query_typecheck.proofs.FirstLemmas.{first_is, is_first, kinds_decided}
use Rattle.query_typecheck.proofs.laws.first_fault_law.Goals as goal

pub returns : goal.returns
returns c start = record {
  first = λ test xs f. (λ h. first_is test xs f h, λ h. is_first test xs f h);
  kinds = λ k l. kinds_decided k l;
}
