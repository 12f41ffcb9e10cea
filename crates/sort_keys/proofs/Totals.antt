-- The order of sort keys is total.
use Rattle.std.specs.Cmp.{IsTotalOrder, nat_cmp_total, on_total, then_total}
use Rattle.std.specs.Cmp.Lexicographic.{lists_total}
use Rattle.sort_keys.specs.SortKeys.{SortParts, parts_order}

pub parts-total : IsTotalOrder parts_order
parts-total = then_total (on_total (λ (p : SortParts). p.0) nat_cmp_total) (then_total (on_total (λ (p : SortParts). p.1) nat_cmp_total) (on_total (λ (p : SortParts). p.2) (lists_total nat_cmp_total)))
