use Rattle.semantics.specs.Sets.{sets_of}
use Rattle.semantics.specs.Conditions.{is_kept, kept_records}
use Rattle.group_tables.proofs.Bags.{bag-filter}
use Rattle.semantics.specs.ResultRows.{aggregate_functions}
use Rattle.tables.proofs.Finding.{found-same}
use Rattle.tables.proofs.laws.records_law.Goals as goal

pub returns : goal.returns
returns c = λ plan rows others same.
    found-same (aggregate_functions plan.fields plan.query) (kept_records plan.fields plan.query rows) (kept_records plan.fields plan.query others)
    (λ set. c.records_law.ensures.groups set (aggregate_functions plan.fields plan.query) (kept_records plan.fields plan.query rows) (kept_records plan.fields plan.query others) (bag-filter (is_kept plan.fields plan.query) rows others same))
    (sets_of plan.fields plan.query)
