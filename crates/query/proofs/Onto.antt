-- The tokens of a canonical text, put in front of others.
use Rattle.std.proofs.Common.{ℕ, Bool, true, false, cond, List, [], ◌∷◌, map, Option, Some, None}
use Rattle.std.specs.Prelude.{nat_lt, codes}
use Rattle.semantics.specs.declared.comparison.Op.{Op}
use Rattle.semantics.specs.declared.comparison.Op.TheVariants as op
use Rattle.semantics.specs.declared.truth.Truth.{Truth}
use Rattle.semantics.specs.declared.truth.Truth.TheVariants as truth
use Rattle.semantics.specs.declared.token.Token.{Token}
use Rattle.semantics.specs.declared.token.Token.TheVariants as tokens
use Rattle.semantics.specs.declared.token.Word.{Word}
use Rattle.semantics.specs.declared.token.Word.TheVariants as w
use Rattle.semantics.specs.declared.token.Sign.{Sign}
use Rattle.semantics.specs.declared.token.Sign.TheVariants as s
use Rattle.semantics.specs.declared.literal.Literal.{Literal}
use Rattle.semantics.specs.declared.literal.Literal.TheVariants as literals
use Rattle.semantics.specs.declared.aggregate.Aggregate.{Aggregate}
use Rattle.semantics.specs.declared.aggregate.Aggregate.TheVariants as aggregates
use Rattle.semantics.specs.Syntax.{Expression, SetFunction, Operand, Predicate, Predicates, GroupingElement, GroupingElements, SelectItem, SortKey, Query, name, grouping, function, over_all, over_filtered, or_of, and_of, not_of, truth_test, compare, between, member, null_test, column, no_parts, part, set, rollup, cube, sets, no_groups, group}
use Rattle.semantics.specs.Canonical.{precedence}

-- Tokens in front of others.
abbrev pub Onto : Type 0
Onto = List Token → List Token

-- ---- lists

-- The others of a list, a separator before each.
abbrev pub others_onto : Token → List Onto → Onto
others_onto sep [] r = r
others_onto sep (f ∷ fs) r = sep ∷ f (others_onto sep fs r)

-- A list, a separator between each and the next.
abbrev pub list_onto : Token → List Onto → Onto
list_onto sep [] r = r
list_onto sep (f ∷ fs) r = f (others_onto sep fs r)

abbrev pub commas_onto : List Onto → Onto
commas_onto = list_onto (tokens.Sign s.Comma)

-- ---- expressions

abbrev pub name_onto : List ℕ → Onto
name_onto n r = tokens.Name n ∷ r

-- A function's word and its argument in brackets.
abbrev pub argument_onto : Word → Onto → Onto
argument_onto word f r = tokens.Word word ∷ tokens.Sign s.Open ∷ f (tokens.Sign s.Close ∷ r)

abbrev pub aggregate_onto : Aggregate → Onto
aggregate_onto aggregates.CountRows = argument_onto w.Count (λ r. tokens.Sign s.Star ∷ r)
aggregate_onto (aggregates.Count n) = argument_onto w.Count (name_onto n)
aggregate_onto (aggregates.CountDistinct n) = argument_onto w.Count (λ r. tokens.Word w.Distinct ∷ name_onto n r)
aggregate_onto (aggregates.Sum n) = argument_onto w.Sum (name_onto n)
aggregate_onto (aggregates.Min n) = argument_onto w.Min (name_onto n)
aggregate_onto (aggregates.Max n) = argument_onto w.Max (name_onto n)
aggregate_onto (aggregates.Avg n) = argument_onto w.Avg (name_onto n)

-- ---- predicates

abbrev pub literal_onto : Literal → Onto
literal_onto (literals.Integer i) r = tokens.Integer i ∷ r
literal_onto (literals.Text t) r = tokens.Text t ∷ r
literal_onto (literals.Truth true) r = tokens.Word w.True ∷ r
literal_onto (literals.Truth false) r = tokens.Word w.False ∷ r

abbrev pub op_sign : Op → Sign
op_sign op.Eq = s.Equal
op_sign op.Ne = s.NotEqual
op_sign op.Lt = s.Less
op_sign op.Le = s.LessOrEqual
op_sign op.Gt = s.Greater
op_sign op.Ge = s.GreaterOrEqual

abbrev pub truth_word : Truth → Word
truth_word truth.True = w.True
truth_word truth.False = w.False
truth_word truth.Unknown = w.Unknown

abbrev pub not_onto : Bool → Onto
not_onto true r = tokens.Word w.Not ∷ r
not_onto false r = r

abbrev pub brackets_onto : Onto → Onto
brackets_onto f r = tokens.Sign s.Open ∷ f (tokens.Sign s.Close ∷ r)

abbrev pub bracketed_onto : ℕ → ℕ → Onto → Onto
bracketed_onto least has f = cond (nat_lt has least) (brackets_onto f) f

-- What stands behind a set function of which these records are taken alone.
abbrev pub filter_onto : Onto → Onto
filter_onto f r = tokens.Word w.Filter ∷ tokens.Sign s.Open ∷ tokens.Word w.Where ∷ f (tokens.Sign s.Close ∷ r)

abbrev mutual
  pub function_onto : SetFunction → Onto
  function_onto (over_all f) = aggregate_onto f
  function_onto (over_filtered f p) = λ r. aggregate_onto f (filter_onto (predicate_onto p) r)

  pub expression_onto : Expression → Onto
  expression_onto (name n) = name_onto n
  expression_onto (grouping ns) = argument_onto w.Grouping (commas_onto (map name_onto ns))
  expression_onto (function f) = function_onto f

  pub operand_onto : Operand → Onto
  operand_onto (Operand.expression e) = expression_onto e
  operand_onto (Operand.literal a) = literal_onto a

  pub predicate_onto : Predicate → Onto
  predicate_onto (or_of ps) = list_onto (tokens.Word w.Or) (part_ontos 1 ps)
  predicate_onto (and_of ps) = list_onto (tokens.Word w.And) (part_ontos 2 ps)
  predicate_onto (not_of p) = λ r. tokens.Word w.Not ∷ bracketed_onto 3 (precedence p) (predicate_onto p) r
  predicate_onto (truth_test p n t) =
      λ r. bracketed_onto 4 (precedence p) (predicate_onto p) (tokens.Word w.Is ∷ not_onto n (tokens.Word (truth_word t) ∷ r))
  predicate_onto (compare x o y) = λ r. operand_onto x (tokens.Sign (op_sign o) ∷ operand_onto y r)
  predicate_onto (between x n y z) = λ r. operand_onto x (not_onto n (tokens.Word w.Between ∷ operand_onto y (tokens.Word w.And ∷ operand_onto z r)))
  predicate_onto (member x n ls) = λ r. operand_onto x (not_onto n (tokens.Word w.In ∷ brackets_onto (commas_onto (map literal_onto ls)) r))
  predicate_onto (null_test x n) = λ r. operand_onto x (tokens.Word w.Is ∷ not_onto n (tokens.Word w.Null ∷ r))
  predicate_onto (column n) = name_onto n

  pub part_ontos : ℕ → Predicates → List Onto
  part_ontos least no_parts = []
  part_ontos least (part p ps) = bracketed_onto least (precedence p) (predicate_onto p) ∷ part_ontos least ps

-- ---- the query

abbrev pub alias_onto : Option (List ℕ) → Onto
alias_onto None r = r
alias_onto (Some n) r = tokens.Word w.As ∷ tokens.Name n ∷ r

abbrev pub item_onto : SelectItem → Onto
item_onto i r = expression_onto i.expression (alias_onto i.alias r)

-- A set or a unit.
abbrev pub unit_onto : List (List ℕ) → Onto
unit_onto [] = brackets_onto (λ r. r)
unit_onto (n ∷ []) = name_onto n
unit_onto (n ∷ m ∷ ns) = brackets_onto (commas_onto (map name_onto (n ∷ m ∷ ns)))

-- Bracketed units.
abbrev pub units_onto : List (List (List ℕ)) → Onto
units_onto us = brackets_onto (commas_onto (map unit_onto us))

abbrev mutual
  pub group_onto : GroupingElement → Onto
  group_onto (set ns) = unit_onto ns
  group_onto (rollup us) = λ r. tokens.Word w.Rollup ∷ units_onto us r
  group_onto (cube us) = λ r. tokens.Word w.Cube ∷ units_onto us r
  group_onto (sets gs) = λ r. tokens.Word w.Grouping ∷ tokens.Word w.Sets ∷ brackets_onto (commas_onto (group_ontos gs)) r

  pub group_ontos : GroupingElements → List Onto
  group_ontos no_groups = []
  group_ontos (group x gs) = group_onto x ∷ group_ontos gs

abbrev pub from_onto : Onto
from_onto r = tokens.Word w.From ∷ tokens.Name (codes "lines") ∷ r

abbrev pub where_onto : Option Predicate → Onto
where_onto None r = r
where_onto (Some p) r = tokens.Word w.Where ∷ predicate_onto p r

abbrev pub distinct_onto : Bool → Onto
distinct_onto true r = tokens.Word w.Distinct ∷ r
distinct_onto false r = r

abbrev pub group_by_onto : Bool → List GroupingElement → Onto
group_by_onto d [] r = r
group_by_onto d (g ∷ gs) r = tokens.Word w.Group ∷ tokens.Word w.By ∷ distinct_onto d (commas_onto (map group_onto (g ∷ gs)) r)

abbrev pub having_onto : Option Predicate → Onto
having_onto None r = r
having_onto (Some p) r = tokens.Word w.Having ∷ predicate_onto p r

abbrev pub direction_onto : Bool → Onto
direction_onto true r = tokens.Word w.Desc ∷ r
direction_onto false r = r

-- Where NULL stands is written only where it is not the default.
abbrev pub nulls_onto : Bool → Bool → Onto
nulls_onto true true r = r
nulls_onto true false r = tokens.Word w.Nulls ∷ tokens.Word w.Last ∷ r
nulls_onto false true r = tokens.Word w.Nulls ∷ tokens.Word w.First ∷ r
nulls_onto false false r = r

abbrev pub key_onto : SortKey → Onto
key_onto k r = expression_onto k.expression (direction_onto k.descending (nulls_onto k.descending k.nulls_first r))

abbrev pub order_by_onto : List SortKey → Onto
order_by_onto [] r = r
order_by_onto (k ∷ ks) r = tokens.Word w.Order ∷ tokens.Word w.By ∷ commas_onto (map key_onto (k ∷ ks)) r

abbrev pub query_onto : Query → Onto
query_onto q r =
    tokens.Word w.Select ∷ commas_onto (map item_onto q.items)
    (from_onto (where_onto q.where_condition (group_by_onto q.distinct_sets q.groups (having_onto q.having_condition (order_by_onto q.keys r)))))
