use Rattle.std.proofs.Common.{◌+◌, ◌∙◌, ap, length}
use Rattle.std.specs.Prelude.{min}
use Rattle.parts.proofs.Places.{next-at_line}
use Rattle.parts.proofs.reader.take_line.Goals as goal

pub returns-clause-at_line : goal.returns-clause-at_line
returns-clause-at_line g c = λ line at.
    next-at_line c.args.rounds.now c.args.place.now c.end_of_line-end.result line c.min.result c.requires.line c.end_of_line-end.ensures.later
    (c.min.ensures ∙ ap (λ xs. min (length xs) (c.end_of_line-end.result + 1)) c.round-round.ensures) at
