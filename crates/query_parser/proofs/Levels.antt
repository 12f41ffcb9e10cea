-- Where no level of brackets or of GROUPING SETS is left, reading stops at the limit.
use Rattle.std.proofs.Common.{arith, length, ◌≡◌, ℕ, zero, suc, List, Ok, refl}
use Rattle.semantics.specs.declared.token.Token.{Token}
use Rattle.semantics.specs.declared.token.Sign.TheVariants as s
use Rattle.semantics.specs.Leaves.{Limits}
use Rattle.query_parser.specs.declared.fault.GrammarFault.TheVariants as faults
use Rattle.query_parser.specs.Inside.Fronts.{is_sign, after}
use Rattle.query_parser.specs.Inside.Steps.{Fails, found_or_unexpected}
use Rattle.query_parser.specs.Inside.ExpressionSteps.{filter_at}
use Rattle.query_parser.specs.Inside.PredicateSteps.{predicate_at, has_level, inside_of}
use Rattle.query_parser.specs.Inside.GroupSteps.{sets_at}

-- before a predicate
pub no_predicate : (limits : Limits) (n : ℕ) (ts : List Token) → n ≡ 0 → Fails faults.OverLimit (predicate_at limits n ts)
unfolding predicate_at
no_predicate limits zero ts none = (length ts, refl)
no_predicate limits (suc n) ts none = absurd (omega (arith, none))

-- behind the bracket of a FILTER
pub no_filter : (limits : Limits) (n : ℕ) (ts rest : List Token) → n ≡ 0 → found_or_unexpected (after (is_sign s.Open)) ts ≡ Ok rest → Fails faults.OverLimit (filter_at (inside_of limits n) ts)
unfolding filter_at has_level
no_filter limits zero ts rest none bracket = (length rest, rw bracket refl)
no_filter limits (suc n) ts rest none bracket = absurd (omega (arith, none))

-- behind GROUPING
pub no_sets : (n : ℕ) (ts : List Token) → n ≡ 0 → Fails faults.OverLimit (sets_at n ts)
unfolding sets_at
no_sets zero ts none = (length ts, refl)
no_sets (suc n) ts none = absurd (omega (arith, none))
