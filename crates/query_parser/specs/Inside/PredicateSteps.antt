-- What the functions of predicates read in front of tokens, one definition for each function, as it
-- computes it. What tokens derive is said in Predicates.
use Rattle.std.specs.Prelude.{ℕ, zero, suc, Bool, true, false, List, length, Ok}
use Rattle.semantics.specs.declared.token.Token.{Token}
use Rattle.semantics.specs.declared.token.Word.TheVariants as w
use Rattle.semantics.specs.declared.token.Sign.TheVariants as s
use Rattle.query_lexer.specs.Options.{choose}
use Rattle.semantics.specs.Syntax.{Predicate, not_of}
use Rattle.query_parser.specs.Inside.Fronts.{is_word, is_sign, after}
use Rattle.semantics.specs.Leaves.{Limits}
use Rattle.semantics.specs.Productions.{conjunction_of, disjunction_of}
use Rattle.values.specs.Results.{◌>>=◌}
use Rattle.query_parser.specs.Inside.Steps.{Reader, over, found_or_unexpected, more}
use Rattle.query_parser.specs.Inside.AtomSteps.{test_after, tested_atom_at}
use Rattle.query_parser.specs.Inside.ExpressionSteps.{Inside}

-- A predicate in brackets or an atom, and the truth test behind it, where there is one.
unfoldable pub test_at : Inside → Reader Predicate
test_at inside ts = choose (after (is_sign s.Open) ts)
    (tested_atom_at inside ts)
    (λ a. inside.read a >>= λ p. found_or_unexpected (after (is_sign s.Close)) p.1 >>= λ b. test_after p.0 b)

-- A test with NOT or without.
unfoldable pub negation_at : Inside → Reader Predicate
negation_at inside ts = choose (after (is_word w.Not) ts) (test_at inside ts) (λ a. test_at inside a >>= λ p. Ok (not_of p.0, p.1))

-- The parts of AND and of OR are as many as there are, so that none is too many.
abbrev pub any_front : List Token → Bool
any_front ts = true

-- Parts joined by AND.
unfoldable pub conjunction_at : Inside → Reader Predicate
conjunction_at inside ts = negation_at inside ts >>= λ p. more (is_word w.And) any_front (negation_at inside) (length p.1) p.1 >>= λ ps. Ok (conjunction_of p.0 ps.0, ps.1)

-- Parts joined by OR, where inside is what may stand in brackets, those of a FILTER too.
unfoldable pub disjunction_at : Inside → Reader Predicate
disjunction_at inside ts = conjunction_at inside ts >>= λ p. more (is_word w.Or) any_front (conjunction_at inside) (length p.1) p.1 >>= λ ps. Ok (disjunction_of p.0 ps.0, ps.1)

-- Whether a level of brackets is left, where there may be fewer than n.
unfoldable pub has_level : ℕ → Bool
has_level zero = false
has_level (suc n) = true

-- A predicate with fewer than n levels of brackets.
unfoldable pub predicate_at : Limits → ℕ → Reader Predicate
predicate_at limits zero ts = over ts
predicate_at limits (suc n) ts = disjunction_at record { limits = limits; has_level = has_level n; read = predicate_at limits n } ts

-- What may stand in brackets where there may be fewer than n levels of them.
abbrev pub inside_of : Limits → ℕ → Inside
inside_of limits n = record { limits = limits; has_level = has_level n; read = predicate_at limits n }
