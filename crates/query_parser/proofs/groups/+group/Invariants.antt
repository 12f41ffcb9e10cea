use Rattle.std.proofs.Common.{◌+◌, ◌*◌, ◌≤◌, length, map, ◌∷◌, []}
use Rattle.semantics.specs.declared.token.Sign.TheVariants.{Comma}
use Rattle.query_ast.specs.Syntax.{element_form}
use Rattle.query_parser.specs.Inside.Fronts.{is_sign}
use Rattle.query_parser.specs.Inside.Steps.{with_front, more}
use Rattle.query_parser.proofs.More.{Unread}
use Rattle.query_parser.specs.Inside.PredicateSteps.{any_front}
use Rattle.query_parser.specs.Inside.GroupSteps.{group_at}
use Rattle.query_parser.proofs.groups.+group.Given as goal

abbrev pub decreases-grouping_sets : goal.decreases-grouping_sets
decreases-grouping_sets l = 4 * l.levels

abbrev pub decreases-group : goal.decreases-group
decreases-group l = 4 * l.levels + 1

abbrev pub decreases-more_groups : goal.decreases-more_groups
decreases-more_groups l = 4 * l.levels + 2

abbrev pub invariant-more_groups-loop-behind : goal.invariant-more_groups-loop-behind
invariant-more_groups-loop-behind l = record {
  shorter : length l.rest ≤ length l.fn.tokens;
  unread : Unread (is_sign Comma) any_front (group_at l.levels) (map element_form l.all.items) l.rest (with_front (element_form l.fn.first ∷ []) (more (is_sign Comma) any_front (group_at l.levels) (length l.fn.tokens) l.fn.tokens));
}

abbrev pub decreases-more_groups-loop-behind : goal.decreases-more_groups-loop-behind
decreases-more_groups-loop-behind l = length l.rest
