use Rattle.group_tables.proofs.EntriesLaw.{is-table, of-records}
use Rattle.group_tables.proofs.laws.entries_law.Goals as goal

pub returns : goal.returns
returns c = record {
  of_records = of-records;
  is_table = is-table;
}
