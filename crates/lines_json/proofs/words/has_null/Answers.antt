use Rattle.std.proofs.Common.{sym, ap, ◌∙◌, arith}
use Rattle.std.proofs.lemmas.Bool.{true≢false}
use Rattle.lines_json.specs.Inside.Contents.{is_word_end}
use Rattle.lines_json.proofs.NoNames.{letters-null}
use Rattle.lines_json.proofs.Literals.{has-null}
use Rattle.lines_json.proofs.words.has_null.Goals as goal

pub returns-then-text-at-eq108-2-clause-stands : goal.returns-then-text-at-eq108-2-clause-stands
returns-then-text-at-eq108-2-clause-stands c ends =
    has-null c.args.text.now c.args.at (omega arith) (omega arith, omega arith, omega arith, omega arith)
    (ap is_word_end (sym c.byte_at.ensures) ∙ sym c.ends_word.ensures ∙ ends)

pub returns-then-text-at-eq108-2-clause-none : goal.returns-then-text-at-eq108-2-clause-none
returns-then-text-at-eq108-2-clause-none c false_is black stop t =
    let letters = letters-null c.args.text.now c.args.at stop black t in
    true≢false (sym letters.ends ∙ ap is_word_end (sym c.byte_at.ensures) ∙ sym c.ends_word.ensures ∙ false_is)

pub returns-else-text-at-ge4-clause-none : goal.returns-else-text-at-ge4-clause-none
returns-else-text-at-ge4-clause-none c false_is black stop t = let letters = letters-null c.args.text.now c.args.at stop black t in grind arith
