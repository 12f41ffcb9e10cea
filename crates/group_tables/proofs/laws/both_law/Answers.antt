use Rattle.std.proofs.Common.{sym, subst}
use Rattle.group_tables.specs.Table.{Contents, HasGroupsOfBoth, both_tables}
use Rattle.group_tables.proofs.Joint.{both_tables-flip, both_tables-has, both_tables-is}
use Rattle.group_tables.proofs.Meaning.{table-joined}
use Rattle.group_tables.proofs.laws.both_law.Goals as goal

pub returns-clause-groups : goal.returns-clause-groups
returns-clause-groups c = λ first second table. (
  both_tables-is first second table,
  λ is. subst (λ (t : Contents). HasGroupsOfBoth first second t) (sym is) (both_tables-has first second),
)

pub returns-clause-union : goal.returns-clause-union
returns-clause-union c = λ first second set functions rows more a b.
    table-joined set functions first second (both_tables first second) rows more a b (both_tables-has first second)

pub returns-clause-either_way : goal.returns-clause-either_way
returns-clause-either_way c = both_tables-flip
