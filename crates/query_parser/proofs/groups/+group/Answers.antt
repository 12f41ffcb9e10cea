use Rattle.std.proofs.Common.{◌≡◌, ◌≤◌, length, map, ◌++◌, ◌∷◌, [], arith}
use Rattle.std.proofs.lemmas.Result.{err_from_is_err_and}
use Rattle.std.proofs.lemmas.List.{map_push}
use Rattle.semantics.specs.declared.token.Sign.TheVariants.{Comma}
use Rattle.query_ast.specs.Syntax.{element_form}
use Rattle.query_parser.specs.Inside.Fronts.{is_sign}
use Rattle.query_parser.proofs.More.{unread_goes, unread_ends, unread_fails}
use Rattle.query_parser.proofs.Levels.{no_sets}
use Rattle.query_parser.specs.Inside.PredicateSteps.{any_front}
use Rattle.query_parser.specs.Inside.GroupSteps.{group_at}
use Rattle.query_parser.proofs.groups.+group.Goals as goal

pub more_groups-returns-in_err-next-clause-exact : goal.more_groups-returns-in_err-next-clause-exact
more_groups-returns-in_err-next-clause-exact t c =
    let p = err_from_is_err_and c.from_residual-in_err-next.result c.from_residual-in_err-next.ensures.1 in
    rw (p.1, p.2) (unread_fails c.in_err-next.field-0.0 (is_sign Comma) any_front (group_at c.args.levels) (map element_form c.loop-behind.all.items) c.loop-behind.rest.now c.in-Some.behind.now _ c.loop-behind.invariant.unread c.in-Some.ensures.exact c.in_err-next.ensures.exact c.in-Some.ensures.shorter)

pub more_groups-loop-behind-preserved : goal.more_groups-loop-behind-preserved
more_groups-loop-behind-preserved t c =
    let e : map element_form c.push-in-Some.new.self.items ≡ map element_form c.loop-behind.all.items ++ element_form c.in_ok-next.next ∷ [] = rw c.in_ok-push-2.ensures.items (map_push element_form c.loop-behind.all.items c.in_ok-next.next) in
    let k : length c.in_ok-next.left.now ≤ length c.args.tokens.now = omega (arith, c.in-Some.ensures.shorter, c.in_ok-next.ensures.shorter, c.loop-behind.invariant.shorter) in
    record {
      shorter = k;
      unread = rw e (unread_goes (is_sign Comma) any_front (group_at c.args.levels) (map element_form c.loop-behind.all.items) c.loop-behind.rest.now c.in-Some.behind.now c.in_ok-next.left.now (element_form c.in_ok-next.next) _ c.loop-behind.invariant.unread c.in-Some.ensures.exact c.in_ok-next.ensures.exact c.in_ok-next.ensures.shorter c.in-Some.ensures.shorter);
    }

pub more_groups-returns-clause-exact : goal.more_groups-returns-clause-exact
more_groups-returns-clause-exact t c = unread_ends (is_sign Comma) any_front (group_at c.args.levels) (map element_form c.loop-behind.all.items) c.loop-behind.rest.now _ c.loop-behind.invariant.unread c.in_default.ensures.exact

pub grouping_sets-returns-then-levels-eq0-clause-exact : goal.grouping_sets-returns-then-levels-eq0-clause-exact
grouping_sets-returns-then-levels-eq0-clause-exact t c = no_sets c.args.levels c.args.tokens.now c.if-levels-eq0.true
