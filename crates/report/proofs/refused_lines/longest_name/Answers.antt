use Rattle.std.proofs.Common.{◌≡◌, ◌+◌, ◌∙◌, ◌∷◌, List, ap, arith, drop, length, max, string_bytes, sym}
use Rattle.std.proofs.lemmas.List.{at_drop_more}
use Rattle.semantics.specs.Columns.{names_of}
use Rattle.values.specs.Schema.{fields_of}
use Rattle.values.specs.declared.schema.Column.{Column}
use Rattle.report.specs.Report.{longest}
use Rattle.report.proofs.refused_lines.longest_name.Goals as goal

pub loop-column-preserved : goal.loop-column-preserved
loop-column-preserved c =
    let columns = c.args.columns.now in
    let i = c.loop-column.column-index in
    let column = c.column-item.result in
    let all = λ (cs : List Column). longest (names_of (fields_of cs)) in
    let parts : all (drop i columns) ≡ max (length (string_bytes column.name)) (all (drop (i + 1) columns)) =
    at_drop_more all columns i column c.loop-column-test.true ∙ ap (λ (d : Column). all (d ∷ drop (i + 1) columns)) (sym c.column-item.is) in
    let was = c.loop-column.invariant.longest in
    let more = c.longer-longest.ensures.longer in
    let name = ap length c.as_str.ensures.value in
    record {
      longest = omega (arith, parts, was, more, name);
      within = c.longer-longest.ensures.within c.loop-column.invariant.within;
    }
