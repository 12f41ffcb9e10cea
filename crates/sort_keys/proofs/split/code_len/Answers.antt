use Rattle.std.proofs.Common.{◌∙◌, sym}
use Rattle.sort_keys.proofs.Lengths.{no-text, text-length}
use Rattle.sort_keys.proofs.split.code_len.Goals as goal

pub returns-in-Some-text_len-clause-len : goal.returns-in-Some-text_len-clause-len
returns-in-Some-text_len-clause-len c =
    text-length c.args.code.now c.in-Some.first.now c.in-Some.rest.now c.in-Some-text_len.len c.in-Some.ensures.cases.0 c.in-6.is (sym c.in-Some-text_len.is ∙ c.text_len.ensures)

pub returns-in-None-clause-len : goal.returns-in-None-clause-len
returns-in-None-clause-len c =
    no-text c.args.code.now c.in-Some.first.now c.in-Some.rest.now 1 c.in-Some.ensures.cases.0 c.in-6.is (sym c.in-None.is ∙ c.text_len.ensures)
