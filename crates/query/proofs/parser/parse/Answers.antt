use Rattle.std.proofs.lemmas.Grind.{common_steps}
use Rattle.std.proofs.Common.{rules, arith, ◌≤◌, ◌-◌, length, subst}
use Rattle.semantics.specs.Prefixes.{IsUnexpected}
use Rattle.semantics.specs.Grammar.{DerivesWithin}
use Rattle.semantics.specs.Leaves.{language_limits}
use Rattle.query_ast.specs.Syntax.{tree_form}
use Rattle.query.proofs.Places.{room_of, unexpected_at, too_much}
use Rattle.query.proofs.Refusals.{told_no_token, told_unexpected, told_too_much, told_query}
use Rattle.query.proofs.parser.parse.Goals as goal

pub returns-in-Err-NoToken-clause-told : goal.returns-in-Err-NoToken-clause-told
returns-in-Err-NoToken-clause-told c =
    told_no_token c.args.text.now _ (search (rules, c.if-text-gt-MAX_BYTES.false)) (c.in-Err-NoToken.ensures.stops _ (let e = c.in-Err-NoToken.is in let f = c.in-Err-NoToken.field-0-is in let b = c.in-Err-NoToken.byte-is in cc))

pub returns-in-Err-Unexpected-clause-told : goal.returns-in-Err-Unexpected-clause-told
returns-in-Err-Unexpected-clause-told c =
    told_unexpected c.args.text.now _ (search (rules, c.if-text-gt-MAX_BYTES.false))
    (unexpected_at c.args.text.now c.in-Ok.tokens.starts.items c.in-Ok.tokens.all.items c.in-Err-Unexpected.left c.start_of_last-byte.result c.in-Ok.ensures.spelled (subst (λ ks. IsUnexpected ks (length ks - c.in-Err-Unexpected.left)) c.as_slice.ensures.value (c.in-Err-Unexpected.ensures.unexpected _ (let e = c.in-Err-Unexpected.is in let f = c.in-Err-Unexpected.field-0-is in let b = c.in-Err-Unexpected.left-is in cc))) (search (rules, c.start_of_last-byte.ensures)))

pub returns-in-Err-OverLimit-clause-told : goal.returns-in-Err-OverLimit-clause-told
returns-in-Err-OverLimit-clause-told c =
    told_too_much c.args.text.now
    (search (rules, too_much, c.in-Ok.ensures.spelled, c.as_slice.ensures.value, c.in-Err-OverLimit.ensures.over_limit, c.in-Err-OverLimit.is))

pub returns-in-Ok-read_query-clause-told : goal.returns-in-Ok-read_query-clause-told
returns-in-Ok-read_query-clause-told c =
    told_query c.args.text.now c.in-Ok.tokens.starts.items c.in-Ok.tokens.all.items (tree_form c.in-Ok-read_query.tree.value) (search (rules, c.if-text-gt-MAX_BYTES.false)) c.in-Ok.ensures.spelled (subst (λ ks. DerivesWithin language_limits ks (tree_form c.in-Ok-read_query.tree.value)) c.as_slice.ensures.value c.in-Ok-read_query.ensures.derived)

pub start_of_last-byte-requires : goal.start_of_last-byte-requires
start_of_last-byte-requires c =
    let room : c.in-Err-Unexpected.left ≤ length c.in-Ok.tokens.starts.items =
    room_of c.args.text.now c.in-Ok.tokens.starts.items c.in-Ok.tokens.all.items c.as_slice.result.now c.in-Err-Unexpected.left c.in-Ok.ensures.spelled c.as_slice.ensures.value
    (c.in-Err-Unexpected.ensures.within _ (let e = c.in-Err-Unexpected.is in let f = c.in-Err-Unexpected.field-0-is in let b = c.in-Err-Unexpected.left-is in cc)) in
    first_of (search (rules, room), grind (arith, common_steps, room))
