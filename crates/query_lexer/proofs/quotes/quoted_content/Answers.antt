use Rattle.std.proofs.Common.{◌≡◌, ◌≤◌, length, arith, rules, string_bytes, ◌++◌, ◌∷◌, [], ℕ, refl, ap, length-append}
use Rattle.std.proofs.lemmas.Str.Pattern.{split_parts}
use Rattle.query_lexer.proofs.Loops.{loop_open, loop_close, loop_twice}
use Rattle.query_lexer.proofs.quotes.quoted_content.Goals as goal

pub returns-in_default-behind-clause-exact : goal.returns-in_default-behind-clause-exact
returns-in_default-behind-clause-exact c =
    let parts = rw c.in-Some.is at (split_parts c.args.quote c.loop-piece.rest.now c.split_once.result c.split_once.ensures.cases c.requires) in
    rw c.in_ok-push_str.ensures.bytes (loop_close c.args.quote (string_bytes c.loop-piece.found) c.loop-piece.rest.now c.in-Some.piece.now c.in-Some.left.now _ c.loop-piece.invariant.2 parts.0 parts.1 c.in_default-behind.ensures.exact)

pub loop-piece-preserved : goal.loop-piece-preserved
loop-piece-preserved c =
    let parts = rw c.in-Some.is at (split_parts c.args.quote c.loop-piece.rest.now c.split_once.result c.split_once.ensures.cases c.requires) in
    let new : string_bytes c.push.new.self ≡ (string_bytes c.loop-piece.found ++ c.in-Some.piece.now) ++ c.args.quote ∷ [] = rw (c.in_ok-push.ensures.bytes, c.in_ok-push.ensures.ascii c.requires, c.in_ok-push_str.ensures.bytes) refl in
    let cut = ap length parts.0 in
    let short : length c.in-Some-behind.more.now ≤ length c.args.text.now = omega (arith, length-append {A = ℕ}, cut, c.in-Some-behind.ensures.shorter, c.loop-piece.invariant.1) in
    (search rules, short, rw new (loop_twice c.args.quote (string_bytes c.loop-piece.found) c.loop-piece.rest.now c.in-Some.piece.now c.in-Some.left.now c.in-Some-behind.more.now _ c.loop-piece.invariant.2 parts.0 parts.1 c.in-Some-behind.ensures.exact))

pub returns-clause-exact : goal.returns-clause-exact
returns-clause-exact c =
    let parts = rw c.in_default.is at (split_parts c.args.quote c.loop-piece.rest.now c.split_once.result c.split_once.ensures.cases c.requires) in
    loop_open c.args.quote (string_bytes c.loop-piece.found) c.loop-piece.rest.now _ c.loop-piece.invariant.2 parts
