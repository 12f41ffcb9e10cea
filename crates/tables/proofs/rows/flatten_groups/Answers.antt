use Rattle.std.proofs.Common.{◌++◌, ℕ, List, map, Vec, Global, sym, ap, ◌∙◌, append_assoc}
use Rattle.group_tables.specs.declared.group.Group.{Group}
use Rattle.group_tables.specs.GroupSummaries.{group_summary_in}
use Rattle.group_tables.specs.GroupRows.{row_of, rows_from}
use Rattle.tables.proofs.rows.flatten_groups.Goals as goal

pub loop-index-preserved : goal.loop-index-preserved
loop-index-preserved c =
    let s = c.in-Some.ensures.steps in
    let old = map row_of c.loop-index.rows.items in
    let rest = c.next.new.self.iter.rest.items in
    let count = c.loop-index.index-iterator.count in
    let shown : ℕ → List _ = λ n. map (λ group. (n, group_summary_in group)) c.in-Some.of_set.items in
    ap (λ rs. rs ++ rows_from c.next.new.self.count rest) c.in_ok-put_groups.ensures
    ∙ append_assoc old (shown c.in-Some.index) (rows_from c.next.new.self.count rest)
    ∙ ap (λ n. old ++ (shown n ++ rows_from c.next.new.self.count rest)) s.1
    ∙ ap (λ n. old ++ (shown count ++ rows_from n rest)) s.2
    ∙ ap (λ (gs : List (Vec Group Global)). old ++ rows_from count gs) (sym s.0.0)
    ∙ c.loop-index.invariant
