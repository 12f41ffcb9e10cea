-- What the functions of atoms read in front of tokens, one definition for each function, as it
-- computes it. What tokens derive is said in Predicates. Where a FILTER may stand, inside is what
-- may stand in its brackets.
use Rattle.std.specs.Prelude.{ℕ, Result, Ok, Bool, true, false, List}
use Rattle.semantics.specs.declared.token.Token.{Token}
use Rattle.query_parser.specs.Inside.Stops.{Stop}
use Rattle.semantics.specs.declared.token.Word.TheVariants as w
use Rattle.query_lexer.specs.Options.{choose}
use Rattle.semantics.specs.Syntax.{Expression, Operand, Predicate, truth_test, compare, between, member, null_test, column}
use Rattle.values.specs.Results.{◌>>=◌}
use Rattle.query_parser.specs.Inside.Fronts.{is_word, after}
use Rattle.query_parser.specs.Inside.Steps.{Reader, unexpected_at, found_or_unexpected}
use Rattle.query_parser.specs.Inside.LeafSteps.{literal_at, literals_at, op_at, truth_at, mark_at}
use Rattle.query_parser.specs.Inside.ExpressionSteps.{Inside, expression_at}

-- An operand.
unfoldable pub operand_at : Inside → Reader Operand
operand_at inside ts = choose (literal_at ts)
    (expression_at inside ts >>= λ e. Ok (Operand.expression e.0, e.1))
    (λ a. Ok (Operand.literal a.0, a.1))

-- The atom of an operand and the literals behind its IN, with at most so many.
unfoldable pub member_after : ℕ → Operand → Bool → Reader Predicate
member_after most x n ts = literals_at most ts >>= λ ls. Ok (member x n ls.0, ls.1)

-- The atom of an operand and the two ends behind its BETWEEN.
unfoldable pub between_after : Inside → Operand → Bool → Reader Predicate
between_after inside x n ts = operand_at inside ts >>= λ y. found_or_unexpected (after (is_word w.And)) y.1 >>= λ a. operand_at inside a >>= λ z. Ok (between x n y.0 z.0, z.1)

-- The atom of an operand and what stands behind its NOT.
unfoldable pub negated_after : Inside → Operand → Reader Predicate
negated_after inside x ts = choose (after (is_word w.In) ts)
    (found_or_unexpected (after (is_word w.Between)) ts >>= λ a. between_after inside x true a)
    (λ a. member_after inside.limits.literals x true a)

-- The atom that an operand alone is: a bare name. Anything else asks for more than these tokens.
unfoldable pub column_of : Operand → List Token → Result Predicate Stop
column_of (Operand.expression (Expression.name n)) ts = Ok (column n)
column_of (Operand.expression (Expression.grouping ns)) ts = unexpected_at ts
column_of (Operand.expression (Expression.function f)) ts = unexpected_at ts
column_of (Operand.literal a) ts = unexpected_at ts

-- The atom of an operand and what stands behind it, unless that is IS.
unfoldable pub atom_after : Inside → Operand → Reader Predicate
atom_after inside x ts = choose (op_at ts)
    (choose (after (is_word w.Not) ts)
    (choose (after (is_word w.In) ts)
    (choose (after (is_word w.Between) ts)
    (column_of x ts >>= λ p. Ok (p, ts))
    (λ a. between_after inside x false a))
    (λ a. member_after inside.limits.literals x false a))
    (λ a. negated_after inside x a))
    (λ o. operand_at inside o.1 >>= λ y. Ok (compare x o.0 y.0, y.1))

-- A predicate and the truth test behind it, where there is one.
unfoldable pub test_after : Predicate → Reader Predicate
test_after p ts = choose (after (is_word w.Is) ts) (Ok (p, ts)) (λ a. truth_at (mark_at a).1 >>= λ t. Ok (truth_test p (mark_at a).0 t.0, t.1))

-- An operand and what stands behind its IS: NULL, and maybe a truth test of that; or the truth test
-- of a bare name.
unfoldable pub is_after : Operand → Reader Predicate
is_after x ts = choose (after (is_word w.Null) (mark_at ts).1)
    (column_of x (mark_at ts).1 >>= λ p. truth_at (mark_at ts).1 >>= λ t. Ok (truth_test p (mark_at ts).0 t.0, t.1))
    (λ a. test_after (null_test x (mark_at ts).0) a)

-- An atom and the truth test behind it, where there is one.
unfoldable pub tested_atom_at : Inside → Reader Predicate
tested_atom_at inside ts = operand_at inside ts >>= λ x. choose (after (is_word w.Is) x.1)
    (atom_after inside x.0 x.1 >>= λ p. test_after p.0 p.1)
    (λ a. is_after x.0 a)
