use Rattle.std.proofs.Common.{rules, ◌≡◌, ◌+◌, ◌<◌, length, get_or, Some, None, sym, ap, subst, ◌∙◌, arith}
use Rattle.std.proofs.lemmas.Bool.Decides.{nat_tests}
use Rattle.std.proofs.lemmas.Str.{IsCharBoundary-after_ascii}
use Rattle.std.specs.Str.{IsCharBoundary}
use Rattle.memchr.specs.Find.{IsFirstByte, is_byte}
use Rattle.semantics.specs.Lines.{line_feed}
use Rattle.lines.proofs.Feeds.{is_feed-from_test}
use Rattle.lines.proofs.Splits.{text_lines_first, text_lines_last}
use Rattle.lines.proofs.utf8.TextLinesIterator.next.Goals as goal

pub range_from-self-inside-requires : goal.range_from-self-inside-requires
range_from-self-inside-requires c =
    let bytes = c.as_bytes.result.now in
    let end = c.in-Some.end in
    let feed : get_or bytes end 0 ≡ 10 = is_feed-from_test _ c.in-Some.ensures.1 in
    λ _. subst (λ bs. IsCharBoundary bs (end + 1)) c.as_bytes.ensures.value (IsCharBoundary-after_ascii bytes end c.as_bytes.ensures.utf8 c.in-Some.ensures.0.high (omega (arith, feed)))

pub returns-in-Some-clause-steps : goal.returns-in-Some-clause-steps
returns-in-Some-clause-steps c =
    let rest = c.self.inside.rest.now in
    let found : IsFirstByte (is_byte line_feed) rest (Some c.in-Some.end) = subst (λ bs. IsFirstByte (is_byte line_feed) bs (Some c.in-Some.end)) c.as_bytes.ensures.value c.in-Some.ensures in
    rw (c.range.ensures.value, c.range_from-self-inside.ensures.value) (sym c.self.view_is ∙ text_lines_first rest c.in-Some.end found)

pub returns-in-Some-clause-goes : goal.returns-in-Some-clause-goes
returns-in-Some-clause-goes c = let e = ap length (returns-in-Some-clause-steps c) in search (rules, e)

pub returns-in-None-clause-steps : goal.returns-in-None-clause-steps
returns-in-None-clause-steps c =
    let rest = c.self.inside.rest.now in
    let some : 0 < length rest = let e = sym c.is_empty.ensures ∙ c.if-is_empty.false in grind (arith, nat_tests, e) in
    let none : IsFirstByte (is_byte line_feed) rest None = subst (λ bs. IsFirstByte (is_byte line_feed) bs None) c.as_bytes.ensures.value c.in-None.ensures in
    rw c.range_from-self-inside-in-None.ensures.value (sym c.self.view_is ∙ text_lines_last rest some none)
