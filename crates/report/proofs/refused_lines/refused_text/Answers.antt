use Rattle.std.proofs.Common.{[], ◌≡◌, ◌≤◌, ◌+◌, ◌∙◌, ◌++◌, ℕ, List, ap, get_or, length, subst, sym, take, take_all}
use Rattle.std.proofs.lemmas.List.{flat_map_more, take_more}
use Rattle.std.specs.List.{flat_map}
use Rattle.semantics.specs.declared.line_fault.LineFault.{LineFault}
use Rattle.semantics.specs.declared.line_fault.LineFault.TheVariants.{TooLong}
use Rattle.semantics.specs.Texts.{refused_line}
use Rattle.report.proofs.refused_lines.refused_text.Goals as goal

pub loop-number-preserved : goal.loop-number-preserved
loop-number-preserved c =
    let line = refused_line c.args.schema.now in
    let lines = c.refused-number-items.result.now in
    let i = c.loop-number.number-index in
    let is : lines ≡ c.args.groups.now.refused = c.refused-number-items.ensures in
    let next = get_or lines i (0, TooLong) in
    c.in_ok-push_refused_line.ensures
    ∙ ap (λ (bytes : List ℕ). bytes ++ line next) (c.loop-number.invariant ∙ ap (λ (xs : List (ℕ × LineFault)). flat_map line (take i xs)) (sym is))
    ∙ flat_map_more line [] (take i lines) next
    ∙ ap (flat_map line) (sym (take_more lines i (0, TooLong) c.loop-number-test.true))
    ∙ ap (λ (xs : List (ℕ × LineFault)). flat_map line (take (i + 1) xs)) is

pub returns : goal.returns
returns c =
    let i = c.loop-number.number-index in
    c.loop-number.invariant
    ∙ ap (flat_map (refused_line c.args.schema.now)) (take_all i c.args.groups.now.refused (subst (λ (xs : List (ℕ × LineFault)). length xs ≤ i) c.refused-number-items.ensures c.loop-number-test.false))
