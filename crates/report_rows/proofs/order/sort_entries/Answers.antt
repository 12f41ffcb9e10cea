use Rattle.std.proofs.Common.{rules}
use Rattle.std.specs.Ordering.{is_lt}
use Rattle.std.proofs.lemmas.Fn.{always_returns_same}
use Rattle.std.proofs.lemmas.List.Sorted.{ranks_by}
use Rattle.report_rows.specs.Inside.SortEntries.{by_code, entry_form}
use Rattle.report_rows.proofs.Totals.{by_code-total}
use Rattle.report_rows.proofs.order.sort_entries.Goals as goal

pub returns-clause-sorted : goal.returns-clause-sorted
returns-clause-sorted c =
    c.sort_unstable_by.ensures.sorted (λ a b. is_lt (by_code (entry_form a) (entry_form b))) (ranks_by by_code-total entry_form) (always_returns_same _ _ _ (λ a r f k. search rules))
