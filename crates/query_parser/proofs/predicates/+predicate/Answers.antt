use Rattle.std.proofs.Common.{◌≡◌, ◌++◌, ◌∷◌, [], map, length, rules, arith, ◌≤◌}
use Rattle.std.proofs.lemmas.Result.{err_from_is_err_and}
use Rattle.std.proofs.lemmas.List.{map_push}
use Rattle.semantics.specs.declared.token.Word.TheVariants.{And, Or}
use Rattle.query_ast.specs.Syntax.{predicate_form}
use Rattle.semantics.specs.Leaves.{language_limits}
use Rattle.query_parser.specs.Inside.Fronts.{is_word}
use Rattle.query_parser.specs.Inside.PredicateSteps.{negation_at, conjunction_at, any_front, inside_of}
use Rattle.query_parser.proofs.More.{unread_goes, unread_ends, unread_fails}
use Rattle.query_parser.proofs.Levels.{no_filter, no_predicate}
use Rattle.query_parser.proofs.predicates.+predicate.Goals as goal

pub more_negations-returns-in_err-part-clause-exact : goal.more_negations-returns-in_err-part-clause-exact
more_negations-returns-in_err-part-clause-exact t c =
    let p = err_from_is_err_and c.from_residual.result c.from_residual.ensures.1 in
    rw (p.1, p.2) (unread_fails c.in_err-part.field-0.0 (is_word And) any_front (negation_at (inside_of language_limits c.args.levels)) (map predicate_form c.loop-behind.parts.items) c.loop-behind.rest.now c.in-Some.behind.now _ c.loop-behind.invariant.unread c.in-Some.ensures.exact c.in_err-part.ensures.exact c.in-Some.ensures.shorter)

pub more_negations-loop-behind-preserved : goal.more_negations-loop-behind-preserved
more_negations-loop-behind-preserved t c =
    let e : map predicate_form c.push.new.self.items ≡ map predicate_form c.loop-behind.parts.items ++ predicate_form c.in_ok-part.part ∷ [] = rw c.in_ok-push.ensures.items (map_push predicate_form c.loop-behind.parts.items c.in_ok-part.part) in
    let k : length c.in_ok-part.left.now ≤ length c.args.tokens.now = omega (arith, c.in-Some.ensures.shorter, c.in_ok-part.ensures.shorter, c.loop-behind.invariant.shorter) in
    record {
      shorter = k;
      unread = rw e (unread_goes (is_word And) any_front (negation_at (inside_of language_limits c.args.levels)) (map predicate_form c.loop-behind.parts.items) c.loop-behind.rest.now c.in-Some.behind.now c.in_ok-part.left.now (predicate_form c.in_ok-part.part) _ c.loop-behind.invariant.unread c.in-Some.ensures.exact c.in_ok-part.ensures.exact c.in_ok-part.ensures.shorter c.in-Some.ensures.shorter);
    }

pub more_negations-returns-clause-exact : goal.more_negations-returns-clause-exact
more_negations-returns-clause-exact t c = unread_ends (is_word And) any_front (negation_at (inside_of language_limits c.args.levels)) (map predicate_form c.loop-behind.parts.items) c.loop-behind.rest.now _ c.loop-behind.invariant.unread c.in_default.ensures.exact

pub more_conjunctions-returns-in_err-part-clause-exact : goal.more_conjunctions-returns-in_err-part-clause-exact
more_conjunctions-returns-in_err-part-clause-exact t c =
    let p = err_from_is_err_and c.from_residual.result c.from_residual.ensures.1 in
    rw (p.1, p.2) (unread_fails c.in_err-part.field-0.0 (is_word Or) any_front (conjunction_at (inside_of language_limits c.args.levels)) (map predicate_form c.loop-behind.parts.items) c.loop-behind.rest.now c.in-Some.behind.now _ c.loop-behind.invariant.unread c.in-Some.ensures.exact c.in_err-part.ensures.exact c.in-Some.ensures.shorter)

pub more_conjunctions-loop-behind-preserved : goal.more_conjunctions-loop-behind-preserved
more_conjunctions-loop-behind-preserved t c =
    let e : map predicate_form c.push.new.self.items ≡ map predicate_form c.loop-behind.parts.items ++ predicate_form c.in_ok-part.part ∷ [] = rw c.in_ok-push.ensures.items (map_push predicate_form c.loop-behind.parts.items c.in_ok-part.part) in
    let k : length c.in_ok-part.left.now ≤ length c.args.tokens.now = omega (arith, c.in-Some.ensures.shorter, c.in_ok-part.ensures.shorter, c.loop-behind.invariant.shorter) in
    record {
      shorter = k;
      unread = rw e (unread_goes (is_word Or) any_front (conjunction_at (inside_of language_limits c.args.levels)) (map predicate_form c.loop-behind.parts.items) c.loop-behind.rest.now c.in-Some.behind.now c.in_ok-part.left.now (predicate_form c.in_ok-part.part) _ c.loop-behind.invariant.unread c.in-Some.ensures.exact c.in_ok-part.ensures.exact c.in_ok-part.ensures.shorter c.in-Some.ensures.shorter);
    }

pub more_conjunctions-returns-clause-exact : goal.more_conjunctions-returns-clause-exact
more_conjunctions-returns-clause-exact t c = unread_ends (is_word Or) any_front (conjunction_at (inside_of language_limits c.args.levels)) (map predicate_form c.loop-behind.parts.items) c.loop-behind.rest.now _ c.loop-behind.invariant.unread c.in_default.ensures.exact

pub filter-returns-then-levels-eq0-clause-exact : goal.filter-returns-then-levels-eq0-clause-exact
filter-returns-then-levels-eq0-clause-exact t c =
    no_filter language_limits c.args.levels c.args.tokens.now c.in_ok-rest.rest.now c.if-levels-eq0.true c.in_ok-rest.ensures.exact

pub predicate-returns-then-levels-eq0-clause-exact : goal.predicate-returns-then-levels-eq0-clause-exact
predicate-returns-then-levels-eq0-clause-exact t c = search (rules, no_predicate, c.if-levels-eq0.true)
