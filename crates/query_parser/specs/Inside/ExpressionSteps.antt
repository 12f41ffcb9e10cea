-- What the functions of expressions read in front of tokens, one definition for each function, as
-- it computes it. What tokens derive is said in Predicates. Where a FILTER may stand, inside is
-- what may stand in its brackets.
use Rattle.std.specs.Prelude.{Bool, true, false, cond, List, ◌∷◌, Ok, []}
use Rattle.semantics.specs.declared.token.Token.{Token}
use Rattle.semantics.specs.declared.token.Token.TheVariants as tokens
use Rattle.semantics.specs.declared.token.Word.TheVariants as w
use Rattle.semantics.specs.declared.token.Sign.TheVariants as s
use Rattle.query_lexer.specs.Options.{choose}
use Rattle.semantics.specs.Syntax.{Expression, SetFunction, Predicate, over_all, over_filtered}
use Rattle.semantics.specs.Leaves.{Limits}
use Rattle.values.specs.Results.{◌>>=◌}
use Rattle.query_parser.specs.Inside.Fronts.{is_word, is_sign, after}
use Rattle.query_parser.specs.Inside.Steps.{Reader, over, found_or_unexpected, name_at}
use Rattle.query_parser.specs.Inside.LeafSteps.{aggregate_at, arguments_at}

-- What may stand in brackets: within which limits, whether a level of them is left, and what reads
-- the predicate there.
pub record Inside : Type 0 where
  pub limits : Limits
  pub has_level : Bool
  pub read : Reader Predicate

-- The bracketed predicate behind FILTER. The levels are counted at the bracket.
unfoldable pub filter_at : Inside → Reader Predicate
filter_at inside ts = found_or_unexpected (after (is_sign s.Open)) ts >>= λ a. cond inside.has_level
    (found_or_unexpected (after (is_word w.Where)) a >>= λ b. inside.read b >>= λ p. found_or_unexpected (after (is_sign s.Close)) p.1 >>= λ rest. Ok (p.0, rest))
    (over a)

-- A set function, and the FILTER behind it, where there is one.
unfoldable pub function_at : Inside → Reader SetFunction
function_at inside ts = aggregate_at ts >>= λ f. choose (after (is_word w.Filter) f.1)
    (Ok (over_all f.0, f.1))
    (λ a. filter_at inside a >>= λ p. Ok (over_filtered f.0 p.0, p.1))

-- An expression.
unfoldable pub expression_at : Inside → Reader Expression
expression_at inside ts = choose (name_at ts)
    (choose (after (is_word w.Grouping) ts)
    (function_at inside ts >>= λ f. Ok (Expression.function f.0, f.1))
    (λ a. arguments_at inside.limits.arguments a >>= λ ns. Ok (Expression.grouping ns.0, ns.1)))
    (λ n. Ok (Expression.name n.0, n.1))

-- Whether an expression begins in front of tokens: a name, GROUPING, or the word of a set function.
unfoldable pub begins_expression : List Token → Bool
begins_expression [] = false
begins_expression (tokens.Name n ∷ ts) = true
begins_expression (tokens.Word w.Grouping ∷ ts) = true
begins_expression (tokens.Word w.Count ∷ ts) = true
begins_expression (tokens.Word w.Sum ∷ ts) = true
begins_expression (tokens.Word w.Min ∷ ts) = true
begins_expression (tokens.Word w.Max ∷ ts) = true
begins_expression (tokens.Word w.Avg ∷ ts) = true
begins_expression (x ∷ ts) = false
