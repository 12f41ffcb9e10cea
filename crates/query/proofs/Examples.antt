-- The definitions, computed on examples.
use Rattle.std.proofs.Common.{ℕ, zero, suc, take, List, [], ◌∷◌, None, false, refl, arith, codes}
use Rattle.semantics.specs.declared.query_fault.QueryFault.TheVariants as faults
use Rattle.semantics.specs.Tokens as spelling
use Rattle.semantics.specs.declared.token.Token.{Token}
use Rattle.semantics.specs.declared.token.Token.TheVariants as tokens
use Rattle.semantics.specs.declared.token.Word.TheVariants as w
use Rattle.semantics.specs.declared.token.Sign.TheVariants as s
use Rattle.semantics.specs.declared.aggregate.Aggregate.TheVariants.{CountRows}
use Rattle.semantics.specs.Syntax.{Expression, Query, over_all}
use Rattle.semantics.specs.Leaves.{Limits, language_limits, IsAggregate, IsRepeated}
use Rattle.semantics.specs.Productions.{IsFunction, IsExpression}
use Rattle.semantics.specs.Grammar.{IsItem, IsGroupBy, IsOrderBy, IsQuery, DerivesWithin, IsClause}
use Rattle.semantics.specs.Prefixes.{BeginsWithin, Begins, KeepsLimits, IsUnexpected, IsOverLimit}
use Rattle.semantics.specs.Reading.{IsRefusalOf}

-- ---- what a fault says of a text

-- the tokens COUNT ( * ) FROM lines, which end a query
count_of_lines : List Token
count_of_lines = tokens.Word w.Count ∷ tokens.Sign s.Open ∷ tokens.Sign s.Star ∷ tokens.Sign s.Close ∷ tokens.Word w.From ∷ tokens.Name (codes "lines") ∷ []

-- SELECT begins a query
select_begins : BeginsWithin language_limits (tokens.Word w.Select ∷ [])
unfolding count_of_lines
select_begins = record {
  rest = count_of_lines;
  tree = record { items = record { expression = Expression.function (over_all CountRows); alias = None } ∷ []; where_condition = None; distinct_sets = false; groups = []; having_condition = None; keys = [] };
  derived = IsQuery.query (IsItem.plain (IsExpression.function (IsFunction.plain IsAggregate.count_rows))) IsRepeated.none (omega arith) IsClause.none IsGroupBy.none IsClause.none IsOrderBy.none;
}

-- no tokens begin one
nothing_begins : BeginsWithin language_limits []
nothing_begins = record { rest = tokens.Word w.Select ∷ select_begins.rest; tree = select_begins.tree; derived = select_begins.derived }

-- FROM begins none, within no limits
from_derives_none : {limits : Limits} {ts : List Token} {q : Query} → DerivesWithin limits (tokens.Word w.From ∷ ts) q → ⊥
from_derives_none d = elim d [ ]

from_begins_none : Begins (tokens.Word w.From ∷ []) → ⊥
from_begins_none b = from_derives_none b.within.derived

-- no tokens are no query
nothing_derives_none : {limits : Limits} {q : Query} → DerivesWithin limits [] q → ⊥
nothing_derives_none d = elim d [ ]

-- of no tokens the end is not expected, and of FROM the first token
nothing_before : Begins []
nothing_before = record { limits = language_limits; within = nothing_begins }

end_unexpected : IsUnexpected [] 0
end_unexpected = record { inside = omega arith; begins = nothing_before; keeps = KeepsLimits.begins nothing_begins; continues_none = λ h b. absurd (omega arith); derives_none = λ limits q d. nothing_derives_none d }

from_unexpected : IsUnexpected (tokens.Word w.From ∷ []) 0
from_unexpected = record { inside = omega arith; begins = nothing_before; keeps = KeepsLimits.begins nothing_begins; continues_none = λ h b. from_begins_none b; derives_none = λ limits q d. from_derives_none d }

-- SELECT is no first token of these that is not expected, and the end behind FROM is not the place
select_expected : IsUnexpected (tokens.Word w.Select ∷ []) 0 → ⊥
select_expected u = u.continues_none (omega arith) record { limits = language_limits; within = select_begins }

from_not_its_end : IsUnexpected (tokens.Word w.From ∷ []) 1 → ⊥
from_not_its_end u = from_begins_none u.begins

-- the empty text ends at byte 0
at_end : IsRefusalOf [] (faults.Unexpected 0)
at_end = (omega arith, record { tokens = []; starts = []; spelled = spelling.end; place = 0; begins = refl; unexpected = end_unexpected })

-- a space spells no token, and ends at byte 1
behind_space : IsRefusalOf (codes " ") (faults.Unexpected 1)
behind_space = (omega arith, record { tokens = []; starts = []; spelled = spelling.space refl spelling.end; place = 0; begins = refl; unexpected = end_unexpected })

-- no tokens keep the limits, and so they are not too many
front_keeps : (place : ℕ) → KeepsLimits (take place [])
front_keeps zero = KeepsLimits.begins nothing_begins
front_keeps (suc place) = KeepsLimits.begins nothing_begins

nothing_within : IsOverLimit [] → ⊥
nothing_within o = o.exceeds (front_keeps o.place)

-- types are no fault of a text, and want of memory is none
of_types : IsRefusalOf [] faults.TypesDisagree → ⊥
of_types h = h

of_memory : IsRefusalOf [] faults.OutOfMemory → ⊥
of_memory h = h
