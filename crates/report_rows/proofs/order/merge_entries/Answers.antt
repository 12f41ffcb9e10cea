use Rattle.std.proofs.Common.{rules, Bor}
use Rattle.std.specs.Ordering.{is_lt}
use Rattle.std.proofs.lemmas.Fn.{always_returns_same}
use Rattle.std.proofs.lemmas.List.Sorted.{ranks_by}
use Rattle.report_rows.specs.Inside.SortEntries.{EntryForm, by_code, entry_form}
use Rattle.report_rows.specs.declared.sort_entry.SortEntry.{SortEntry}
use Rattle.report_rows.proofs.Totals.{by_code-total}
use Rattle.report_rows.proofs.order.merge_entries.Goals as goal

pub returns-clause-sorted : goal.returns-clause-sorted
returns-clause-sorted c =
    let at : Bor SortEntry → EntryForm = λ r. entry_form r.now in
    c.in_ok-sort_by.ensures.sorted (λ a b. is_lt (by_code (at a) (at b))) (ranks_by by_code-total at) (always_returns_same _ _ _ (λ a r f k. search rules))
