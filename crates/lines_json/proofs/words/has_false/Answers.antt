use Rattle.std.proofs.Common.{sym, ap, ◌∙◌, arith}
use Rattle.std.proofs.lemmas.Bool.{true≢false}
use Rattle.lines_json.specs.Inside.Contents.{is_word_end}
use Rattle.lines_json.proofs.NoNames.{letters-false}
use Rattle.lines_json.proofs.Literals.{has-false}
use Rattle.lines_json.proofs.words.has_false.Goals as goal

pub returns-then-text-at-eq101-clause-stands : goal.returns-then-text-at-eq101-clause-stands
returns-then-text-at-eq101-clause-stands c ends =
    has-false c.args.text.now c.args.at (omega arith) (omega arith, omega arith, omega arith, omega arith) (omega arith)
    (ap is_word_end (sym c.byte_at.ensures) ∙ sym c.ends_word.ensures ∙ ends)

pub returns-then-text-at-eq101-clause-none : goal.returns-then-text-at-eq101-clause-none
returns-then-text-at-eq101-clause-none c false_is black stop t =
    let letters = letters-false c.args.text.now c.args.at stop black t in
    true≢false (sym letters.0.ends ∙ ap is_word_end (sym c.byte_at.ensures) ∙ sym c.ends_word.ensures ∙ false_is)

pub returns-else-text-at-ge5-clause-none : goal.returns-else-text-at-ge5-clause-none
returns-else-text-at-ge5-clause-none c false_is black stop t = let letters = letters-false c.args.text.now c.args.at stop black t in grind arith
