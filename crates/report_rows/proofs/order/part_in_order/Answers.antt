use Rattle.std.proofs.Common.{map}
use Rattle.report_rows.specs.Inside.SortEntries.{coded_form, entry_at, entry_form}
use Rattle.report_rows.proofs.Rows.{ranks-moved, row_at}
use Rattle.report_rows.proofs.order.part_in_order.Goals as goal

pub returns : goal.returns
returns c =
    let cs = map coded_form c.args.keys.now in
    record {
      codable = c.in_ok-entries.ensures.codable;
      entries = ranks-moved entry_form (entry_at cs) (map row_at c.args.rows.now) c.in_ok-entries.entries.items c.sort_entries.result.items c.in_ok-entries.ensures.entries c.sort_entries.ensures.permutation;
    }
