use Rattle.std.proofs.Common.{◌≡◌, ◌∙◌, ◌*◌, ℕ, Bor, List, IfOk, length, map, take, drop, get_or, ap, sym, subst, arith}
use Rattle.std.proofs.lemmas.List.{drop-map, length-map, take-map}
use Rattle.semantics.specs.Aggregates.{CellValue}
use Rattle.group_tables.specs.declared.group.Group.{Group}
use Rattle.group_tables.specs.GroupRows.{row_of}
use Rattle.report.specs.Inside.Parts.{IsTextOf}
use Rattle.report_rows.specs.Sources.{cells_at}
use Rattle.report.specs.Inside.Text.{rows_bytes}
use Rattle.report_rows.proofs.InParts.{parts-cover, parts-made}
use Rattle.report.proofs.among.texts_among.Goals as goal

pub returns : goal.returns
returns g c =
    let size = c.args.size in
    let groups = c.args.groups.now in
    let cells = λ (r : Bor (ℕ × Group)). cells_at c.args.sources.now (row_of r.now) in
    let texts = c.in_ok-texts.texts.items in
    let count = length-map groups cells in
    let ok = c.in_ok-texts.texts.ok in
    let made : length texts ≡ c.in_ok-texts.texts.len = omega (arith, ok) in
    let cover = parts-cover (length groups) size (length texts) c.requires.size (made ∙ c.in_ok-texts.ensures.len) in
    parts-made IsTextOf size (map cells groups) texts
    (λ n d low.
    let k = (c.in_ok-texts.ensures.each n d low).1 in
    let part : map cells k.argument.now ≡ take size (drop (n * size) (map cells groups)) =
    ap (map cells) k.argument_is.value ∙ sym (take-map cells size (drop (n * size) groups)) ∙ ap (take size) (sym (drop-map cells (n * size) groups)) in
    subst (λ (rows : List (List CellValue)). IfOk (get_or texts n d) (λ made. made.items ≡ rows_bytes rows)) part k.call)
    (omega (arith, count, cover))
