-- What the functions of leaves read in front of tokens, one definition for each function, as it
-- computes it. What tokens derive is said in Leaves.
use Rattle.std.specs.Prelude.{◌-◌, ℕ, List, ◌∷◌, Option, Some, None, is_some, Ok, Bool, true, false, []}
use Rattle.semantics.specs.declared.comparison.Op.{Op}
use Rattle.semantics.specs.declared.comparison.Op.TheVariants as op
use Rattle.semantics.specs.declared.truth.Truth.{Truth}
use Rattle.semantics.specs.declared.truth.Truth.TheVariants as truth
use Rattle.semantics.specs.declared.token.Token.{Token}
use Rattle.semantics.specs.declared.token.Token.TheVariants as tokens
use Rattle.semantics.specs.declared.token.Word.TheVariants as w
use Rattle.semantics.specs.declared.token.Sign.TheVariants as s
use Rattle.query_lexer.specs.Options.{choose}
use Rattle.semantics.specs.declared.aggregate.Aggregate.{Aggregate}
use Rattle.semantics.specs.declared.aggregate.Aggregate.TheVariants as aggregates
use Rattle.semantics.specs.declared.literal.Literal.{Literal}
use Rattle.semantics.specs.declared.literal.Literal.TheVariants as literals
use Rattle.values.specs.Results.{◌>>=◌}
use Rattle.query_parser.specs.Inside.Fronts.{is_word, is_sign, after}
use Rattle.query_parser.specs.Inside.Steps.{Reader, unexpected_at, found_or_unexpected, bracketed_at, name_at, begins_name}

-- ---- set functions, and the names of GROUPING

-- A name and its closing bracket.
unfoldable pub closed_name_at : Reader (List ℕ)
closed_name_at ts = found_or_unexpected name_at ts >>= λ n. found_or_unexpected (after (is_sign s.Close)) n.1 >>= λ rest. Ok (n.0, rest)

-- The bracketed name behind a set function.
unfoldable pub argument_at : Reader (List ℕ)
argument_at ts = found_or_unexpected (after (is_sign s.Open)) ts >>= λ a. closed_name_at a

-- The name that a COUNT counts, with DISTINCT or without, and its closing bracket.
unfoldable pub counted_name_at : Reader Aggregate
counted_name_at ts = choose (after (is_word w.Distinct) ts)
    (closed_name_at ts >>= λ n. Ok (aggregates.Count n.0, n.1))
    (λ a. closed_name_at a >>= λ n. Ok (aggregates.CountDistinct n.0, n.1))

-- The star or name in brackets behind COUNT.
unfoldable pub count_at : Reader Aggregate
count_at ts = found_or_unexpected (after (is_sign s.Open)) ts >>= λ a. choose (after (is_sign s.Star) a)
    (counted_name_at a)
    (λ b. found_or_unexpected (after (is_sign s.Close)) b >>= λ rest. Ok (aggregates.CountRows, rest))

-- A set function.
unfoldable pub aggregate_at : Reader Aggregate
aggregate_at [] = unexpected_at []
aggregate_at (tokens.Word w.Count ∷ ts) = count_at ts
aggregate_at (tokens.Word w.Sum ∷ ts) = argument_at ts >>= λ n. Ok (aggregates.Sum n.0, n.1)
aggregate_at (tokens.Word w.Min ∷ ts) = argument_at ts >>= λ n. Ok (aggregates.Min n.0, n.1)
aggregate_at (tokens.Word w.Max ∷ ts) = argument_at ts >>= λ n. Ok (aggregates.Max n.0, n.1)
aggregate_at (tokens.Word w.Avg ∷ ts) = argument_at ts >>= λ n. Ok (aggregates.Avg n.0, n.1)
aggregate_at (x ∷ ts) = unexpected_at (x ∷ ts)

-- The bracketed names behind GROUPING, with at most so many.
unfoldable pub arguments_at : ℕ → Reader (List (List ℕ))
arguments_at most ts = bracketed_at begins_name (found_or_unexpected name_at) (most - 1) ts

-- ---- literals, operators and truth values

-- A literal, where one stands in front.
unfoldable pub literal_at : List Token → Option (Literal × List Token)
literal_at [] = None
literal_at (tokens.Integer i ∷ ts) = Some (literals.Integer i, ts)
literal_at (tokens.Text t ∷ ts) = Some (literals.Text t, ts)
literal_at (tokens.Word w.True ∷ ts) = Some (literals.Truth true, ts)
literal_at (tokens.Word w.False ∷ ts) = Some (literals.Truth false, ts)
literal_at (x ∷ ts) = None

-- Whether a literal stands in front.
abbrev pub begins_literal : List Token → Bool
begins_literal ts = is_some (literal_at ts)

-- The bracketed literals behind IN, with at most so many.
unfoldable pub literals_at : ℕ → Reader (List Literal)
literals_at most ts = bracketed_at begins_literal (found_or_unexpected literal_at) (most - 1) ts

-- An operator, where one stands in front.
unfoldable pub op_at : List Token → Option (Op × List Token)
op_at [] = None
op_at (tokens.Sign s.Equal ∷ ts) = Some (op.Eq, ts)
op_at (tokens.Sign s.NotEqual ∷ ts) = Some (op.Ne, ts)
op_at (tokens.Sign s.Less ∷ ts) = Some (op.Lt, ts)
op_at (tokens.Sign s.LessOrEqual ∷ ts) = Some (op.Le, ts)
op_at (tokens.Sign s.Greater ∷ ts) = Some (op.Gt, ts)
op_at (tokens.Sign s.GreaterOrEqual ∷ ts) = Some (op.Ge, ts)
op_at (x ∷ ts) = None

-- A truth value.
unfoldable pub truth_at : Reader Truth
truth_at [] = unexpected_at []
truth_at (tokens.Word w.True ∷ ts) = Ok (truth.True, ts)
truth_at (tokens.Word w.False ∷ ts) = Ok (truth.False, ts)
truth_at (tokens.Word w.Unknown ∷ ts) = Ok (truth.Unknown, ts)
truth_at (x ∷ ts) = unexpected_at (x ∷ ts)

-- Whether NOT stands in front, and what stands behind it.
unfoldable pub mark_at : List Token → Bool × List Token
mark_at ts = choose (after (is_word w.Not) ts) (false, ts) (λ rest. (true, rest))
