use Rattle.std.proofs.Common.{IsUtf8, refl, sym, subst, arith, ◌∙◌, Some, Ok}
use Rattle.part_lines.specs.LineValues.{Tells, line_value}
use Rattle.part_lines.proofs.Spellings.{among-numbers, among-texts, no_value, tells, text-IsUtf8}
use Rattle.part_lines.proofs.line_values.read_any_value.Goals as goal

pub returns-in_default : goal.returns-in_default
returns-in_default c =
    no_value c.args.line.now (line_value c.args.line.now) refl (λ d t. c.in_default.ensures (subst IsUtf8 (sym t.1) (text-IsUtf8 d t.0)))

pub returns-in-Some : goal.returns-in-Some
returns-in-Some c = subst (λ line. Tells (Ok (Some c.in-Some.value)) (line_value line)) c.in-Ok.ensures.0 (tells c.in-Ok.line.now (Some c.in-Some.value) c.in-Some.ensures)

pub returns-then-starts_with : goal.returns-then-starts_with
returns-then-starts_with c =
    let first = c.starts_with.ensures.byte (omega arith) (omega arith) (λ w o r. r) in
    subst (λ line. Tells c.read_string.result (line_value line)) c.in-Ok.ensures.0
    (among-texts c.in-Ok.line.now c.read_string.result (sym first ∙ c.if-starts_with.true) c.read_string.ensures)

pub returns-else-starts_with : goal.returns-else-starts_with
returns-else-starts_with c =
    let first = c.starts_with.ensures.byte (omega arith) (omega arith) (λ w o r. r) in
    subst (λ line. Tells (Ok c.read_number.result) (line_value line)) c.in-Ok.ensures.0
    (among-numbers c.in-Ok.line.now c.read_number.result (sym first ∙ c.if-starts_with.false) c.in_default-literal_value.ensures c.read_number.ensures)
