use Rattle.std.proofs.Common.{◌≡◌, ◌∙◌, ◌+◌, ◌++◌, ◌-◌, Bor, ℕ, List, Some, map, take, drop, ap, sym, subst, arith}
use Rattle.std.specs.Io.KnownBytes.{Appends}
use Rattle.std.proofs.KnownBytes.{Appends-trans}
use Rattle.csv.specs.Writing.{text_written}
use Rattle.group_tables.specs.declared.group.Group.{Group}
use Rattle.semantics.specs.Aggregates.{CellValue}
use Rattle.group_tables.specs.GroupRows.{row_of}
use Rattle.report_rows.specs.Sources.{cells_at}
use Rattle.report.specs.Inside.Text.{rows_bytes}
use Rattle.report_rows.proofs.Maps.{map-more}
use Rattle.report.proofs.Written.{rows-append}
use Rattle.report.proofs.text.put_groups.Goals as goal

pub loop-start-preserved : goal.loop-start-preserved
loop-start-preserved c =
    let groups = c.args.groups.now in
    let start = c.loop-start.start in
    let count = c.min.result in
    let shown : Bor (ℕ × Group) → List CellValue = λ r. cells_at c.args.sources.now (row_of r.now) in
    let more : map shown (take (start + count) groups) ≡ map shown (take start groups) ++ map shown (take count (drop start groups)) = map-more shown groups start count in
    let before = text_written (λ v. Some v.items) c.args.writer.now in
    let so_far = text_written (λ v. Some v.items) c.loop-start.writer in
    let now = text_written (λ v. Some v.items) c.put_few.new.writer in
    let len : start + count - start ≡ count = omega arith in
    record {
      between = c.in_ok-put_few.ensures.between;
      within = let is = c.min.ensures in omega (arith, c.loop-start-test.true, is);
      appends = subst (Appends before now) (sym (rows-append (map shown (take start groups)) (map shown (take count (drop start groups)))) ∙ ap rows_bytes (sym more))
          (Appends-trans before so_far now (rows_bytes (map shown (take start groups))) (rows_bytes (map shown (take count (drop start groups)))) c.loop-start.invariant.appends
          (subst (λ (n : ℕ). Appends so_far now (rows_bytes (map shown (take n (drop start groups))))) len c.in_ok-put_few.ensures.appends));
    }
