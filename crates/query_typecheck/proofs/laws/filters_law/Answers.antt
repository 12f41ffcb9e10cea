use Rattle.query_typecheck.proofs.FilterLemmas.{indexes_lead_back, typed_filters}
use Rattle.query_typecheck.proofs.laws.filters_law.Goals as goal

pub returns : goal.returns
returns c = record { back = λ fields t. indexes_lead_back fields t; typed = λ fields t h. typed_filters fields t h }
