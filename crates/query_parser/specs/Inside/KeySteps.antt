-- What the functions of keys read in front of tokens, one definition for each function, as it
-- computes it. No public contract rests on this file: what tokens derive is said in Grammar.
use Rattle.std.specs.Prelude.{Bool, true, false, List, Ok, []}
use Rattle.semantics.specs.declared.token.Token.{Token}
use Rattle.semantics.specs.declared.token.Word.TheVariants as w
use Rattle.query_lexer.specs.Options.{choose}
use Rattle.semantics.specs.Syntax.{SortKey}
use Rattle.semantics.specs.Leaves.{Limits}
use Rattle.values.specs.Results.{◌>>=◌}
use Rattle.query_parser.specs.Inside.Fronts.{is_word, after}
use Rattle.query_parser.specs.Inside.Steps.{Reader, found_or_unexpected}
use Rattle.query_parser.specs.Inside.ExpressionSteps.{expression_at, begins_expression}
use Rattle.query_parser.specs.Inside.PredicateSteps.{inside_of}
use Rattle.query_parser.specs.Inside.GroupSteps.{all_at}

-- Whether DESC is written, and what stands behind it or behind ASC.
unfoldable pub direction_at : List Token → Bool × List Token
direction_at ts = choose (after (is_word w.Desc) ts) (choose (after (is_word w.Asc) ts) (false, ts) (λ r. (false, r))) (λ r. (true, r))

-- Whether NULL is first: as it is written, else exactly under DESC.
unfoldable pub null_ordering_at : Bool → Reader Bool
null_ordering_at descending ts = choose (after (is_word w.Nulls) ts) (Ok (descending, ts)) (λ a.
    choose (after (is_word w.First) a) (found_or_unexpected (after (is_word w.Last)) a >>= λ r. Ok (false, r)) (λ r. Ok (true, r)))

-- A key.
unfoldable pub key_at : Limits → Reader SortKey
key_at limits ts = expression_at (inside_of limits limits.levels) ts >>= λ e. null_ordering_at (direction_at e.1).0 (direction_at e.1).1 >>= λ n.
    Ok (record { expression = e.0; descending = (direction_at e.1).0; nulls_first = n.0 }, n.1)

-- The keys of ORDER BY, or none.
unfoldable pub keys_at : Limits → Reader (List SortKey)
keys_at limits ts = choose (after (is_word w.Order) ts) (Ok ([], ts)) (λ a. found_or_unexpected (after (is_word w.By)) a >>= λ b. all_at begins_expression (key_at limits) b)
