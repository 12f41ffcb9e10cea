use Rattle.std.proofs.Common.{◌+◌, ◌*◌, ◌≤◌, length, map}
use Rattle.semantics.specs.declared.token.Word.TheVariants.{And, Or}
use Rattle.query_ast.specs.Syntax.{predicate_form}
use Rattle.semantics.specs.Leaves.{language_limits}
use Rattle.query_parser.specs.Inside.Fronts.{is_word}
use Rattle.query_parser.specs.Inside.Steps.{more}
use Rattle.query_parser.specs.Inside.PredicateSteps.{negation_at, conjunction_at, any_front, inside_of}
use Rattle.query_parser.proofs.More.{Unread}
use Rattle.query_parser.proofs.predicates.+predicate.Given as goal

abbrev pub decreases-filter : goal.decreases-filter
decreases-filter l = 16 * l.levels + 1

abbrev pub decreases-set_function : goal.decreases-set_function
decreases-set_function l = 16 * l.levels + 2

abbrev pub decreases-expression : goal.decreases-expression
decreases-expression l = 16 * l.levels + 3

abbrev pub decreases-operand : goal.decreases-operand
decreases-operand l = 16 * l.levels + 4

abbrev pub decreases-between_atom : goal.decreases-between_atom
decreases-between_atom l = 16 * l.levels + 5

abbrev pub decreases-negated_atom : goal.decreases-negated_atom
decreases-negated_atom l = 16 * l.levels + 6

abbrev pub decreases-atom : goal.decreases-atom
decreases-atom l = 16 * l.levels + 7

abbrev pub decreases-tested_atom : goal.decreases-tested_atom
decreases-tested_atom l = 16 * l.levels + 8

abbrev pub decreases-test : goal.decreases-test
decreases-test l = 16 * l.levels + 9

abbrev pub decreases-negation : goal.decreases-negation
decreases-negation l = 16 * l.levels + 10

abbrev pub decreases-more_negations : goal.decreases-more_negations
decreases-more_negations l = 16 * l.levels + 11

abbrev pub decreases-conjunction : goal.decreases-conjunction
decreases-conjunction l = 16 * l.levels + 12

abbrev pub decreases-more_conjunctions : goal.decreases-more_conjunctions
decreases-more_conjunctions l = 16 * l.levels + 13

abbrev pub decreases-predicate : goal.decreases-predicate
decreases-predicate l = 16 * l.levels

abbrev pub invariant-more_negations-loop-behind : goal.invariant-more_negations-loop-behind
invariant-more_negations-loop-behind l = record {
  shorter : length l.rest ≤ length l.fn.tokens;
  unread : Unread (is_word And) any_front (negation_at (inside_of language_limits l.levels)) (map predicate_form l.parts.items) l.rest (more (is_word And) any_front (negation_at (inside_of language_limits l.levels)) (length l.fn.tokens) l.fn.tokens);
}

abbrev pub decreases-more_negations-loop-behind : goal.decreases-more_negations-loop-behind
decreases-more_negations-loop-behind l = length l.rest

abbrev pub invariant-more_conjunctions-loop-behind : goal.invariant-more_conjunctions-loop-behind
invariant-more_conjunctions-loop-behind l = record {
  shorter : length l.rest ≤ length l.fn.tokens;
  unread : Unread (is_word Or) any_front (conjunction_at (inside_of language_limits l.levels)) (map predicate_form l.parts.items) l.rest (more (is_word Or) any_front (conjunction_at (inside_of language_limits l.levels)) (length l.fn.tokens) l.fn.tokens);
}

abbrev pub decreases-more_conjunctions-loop-behind : goal.decreases-more_conjunctions-loop-behind
decreases-more_conjunctions-loop-behind l = length l.rest
