-- The grammar of queries within limits, with one case for each production, written as in Leaves
-- (ISO/IEC 9075-2, <query specification>).
use Rattle.std.specs.Prelude.{◌<◌, ℕ, zero, suc, Bool, true, false, Option, Some, None, List, [], ◌∷◌, length, codes}
use Rattle.semantics.specs.Leaves.{Limits, Derivation, IsRepeated, IsName, IsOptional}
use Rattle.semantics.specs.Productions.{IsExpression, IsPredicate}
use Rattle.semantics.specs.Syntax.{Expression, Predicate, GroupingElement, SelectItem, SortKey, Query, element_forms}
use Rattle.semantics.specs.declared.token.Token.{Token}
use Rattle.semantics.specs.declared.token.Word.{Word}
use Rattle.semantics.specs.declared.token.Token.TheVariants as tokens
use Rattle.semantics.specs.declared.token.Word.TheVariants as w
use Rattle.semantics.specs.declared.token.Sign.TheVariants as s

-- item = expr [ AS name ], with at most `levels` levels of brackets in a FILTER, its own among them
pub data IsItem (limits : Limits) : List Token → SelectItem → List Token → Type 0 where
  plain : {ts r : List Token} {e : Expression}
      → IsExpression limits (IsPredicate limits limits.levels) ts e r
      → IsItem limits ts record { expression = e; alias = None } r
  named : {ts r : List Token} {e : Expression} {n : List ℕ}
      → IsExpression limits (IsPredicate limits limits.levels) ts e
      (tokens.Word w.As ∷ tokens.Name n ∷ r)
      → IsItem limits ts record { expression = e; alias = Some n } r

-- [ keyword pred ], as WHERE and HAVING are, with at most `levels` levels of brackets
pub data IsClause (keyword : Word) (limits : Limits) : List Token → Option Predicate → List Token
    → Type 0 where
  none : {r : List Token} → IsClause keyword limits r None r
  condition : {ts r : List Token} {p : Predicate} → IsPredicate limits (suc limits.levels) ts p r
      → IsClause keyword limits (tokens.Word keyword ∷ ts) (Some p) r

-- unit = name | "(" name { "," name } ")"
pub data IsUnit : List Token → List (List ℕ) → List Token → Type 0 where
  column : {n : List ℕ} {r : List Token} → IsUnit (tokens.Name n ∷ r) (n ∷ []) r
  columns : {mid r : List Token} {n : List ℕ} {ns : List (List ℕ)}
      → IsRepeated (tokens.Sign s.Comma) IsName mid ns (tokens.Sign s.Close ∷ r)
      → IsUnit (tokens.Sign s.Open ∷ tokens.Name n ∷ mid) (n ∷ ns) r

-- set = unit | "(" ")"
pub data IsSet : List Token → List (List ℕ) → List Token → Type 0 where
  none : {r : List Token} → IsSet (tokens.Sign s.Open ∷ tokens.Sign s.Close ∷ r) [] r
  unit : {ts r : List Token} {ns : List (List ℕ)} → IsUnit ts ns r → IsSet ts ns r

-- group = set
--       | ROLLUP "(" unit { "," unit } ")"
--       | CUBE "(" unit { "," unit } ")"
--       | GROUPING SETS "(" group { "," group } ")"
-- where IsInner is what may stand in the brackets of GROUPING SETS
pub data IsElement (IsInner : Derivation GroupingElement) : List Token → GroupingElement
    → List Token → Type 0 where
  set : {ts r : List Token} {ns : List (List ℕ)} → IsSet ts ns r
      → IsElement IsInner ts (GroupingElement.set ns) r
  rollup : {ts mid r : List Token} {u : List (List ℕ)} {us : List (List (List ℕ))} → IsUnit ts u mid
      → IsRepeated (tokens.Sign s.Comma) IsUnit mid us (tokens.Sign s.Close ∷ r)
      → IsElement IsInner (tokens.Word w.Rollup ∷ tokens.Sign s.Open ∷ ts)
      (GroupingElement.rollup (u ∷ us)) r
  cube : {ts mid r : List Token} {u : List (List ℕ)} {us : List (List (List ℕ))} → IsUnit ts u mid
      → IsRepeated (tokens.Sign s.Comma) IsUnit mid us (tokens.Sign s.Close ∷ r)
      → IsElement IsInner (tokens.Word w.Cube ∷ tokens.Sign s.Open ∷ ts)
      (GroupingElement.cube (u ∷ us)) r
  sets : {ts mid r : List Token} {g : GroupingElement} {gs : List GroupingElement}
      → IsInner ts g mid → IsRepeated (tokens.Sign s.Comma) IsInner mid gs (tokens.Sign s.Close ∷ r)
      → IsElement IsInner (tokens.Word w.Grouping ∷ tokens.Word w.Sets ∷ tokens.Sign s.Open ∷ ts)
      (GroupingElement.sets (element_forms (g ∷ gs))) r

-- group, with at most n levels of GROUPING SETS in one another
unfoldable pub IsGroup : ℕ → List Token → GroupingElement → List Token → Type 0
IsGroup zero ts g r = IsElement (λ ts g r. ⊥) ts g r
IsGroup (suc n) ts g r = IsElement (IsGroup n) ts g r

-- [ GROUP BY [ DISTINCT ] group { "," group } ], whether DISTINCT is written, and the elements,
-- with at most `sets` levels of GROUPING SETS in one another
pub data IsGroupBy (limits : Limits) : List Token → Bool → List GroupingElement → List Token
    → Type 0 where
  none : {r : List Token} → IsGroupBy limits r false [] r
  groups : {ts us mid r : List Token} {d : Bool} {g : GroupingElement} {gs : List GroupingElement}
      → IsOptional w.Distinct ts d us → IsGroup limits.sets us g mid
      → IsRepeated (tokens.Sign s.Comma) (IsGroup limits.sets) mid gs r
      → IsGroupBy limits (tokens.Word w.Group ∷ tokens.Word w.By ∷ ts) d (g ∷ gs) r

-- [ ASC | DESC ], and whether it is DESC
pub data IsDirection : List Token → Bool → List Token → Type 0 where
  none : {r : List Token} → IsDirection r false r
  ascending : {r : List Token} → IsDirection (tokens.Word w.Asc ∷ r) false r
  descending : {r : List Token} → IsDirection (tokens.Word w.Desc ∷ r) true r

-- [ NULLS FIRST | NULLS LAST ], and whether NULL is first; if it is not written, NULL is first
-- exactly under DESC
pub data IsNullOrdering (descending : Bool) : List Token → Bool → List Token → Type 0 where
  none : {r : List Token} → IsNullOrdering descending r descending r
  first : {r : List Token}
      → IsNullOrdering descending (tokens.Word w.Nulls ∷ tokens.Word w.First ∷ r) true r
  last : {r : List Token}
      → IsNullOrdering descending (tokens.Word w.Nulls ∷ tokens.Word w.Last ∷ r) false r

-- key = expr [ ASC | DESC ] [ NULLS FIRST | NULLS LAST ], with at most `levels` levels of brackets
-- in a FILTER, its own among them
pub data IsKey (limits : Limits) : List Token → SortKey → List Token → Type 0 where
  key : {ts u v r : List Token} {e : Expression} {d n : Bool}
      → IsExpression limits (IsPredicate limits limits.levels) ts e u → IsDirection u d v
      → IsNullOrdering d v n r
      → IsKey limits ts record { expression = e; descending = d; nulls_first = n } r

-- [ ORDER BY key { "," key } ]
pub data IsOrderBy (limits : Limits) : List Token → List SortKey → List Token → Type 0 where
  none : {r : List Token} → IsOrderBy limits r [] r
  keys : {ts mid r : List Token} {k : SortKey} {ks : List SortKey} → IsKey limits ts k mid
      → IsRepeated (tokens.Sign s.Comma) (IsKey limits) mid ks r
      → IsOrderBy limits (tokens.Word w.Order ∷ tokens.Word w.By ∷ ts) (k ∷ ks) r

-- query = SELECT item { "," item } FROM lines
--         [ WHERE pred ] [ GROUP BY [ DISTINCT ] group { "," group } ]
--         [ HAVING pred ] [ ORDER BY key { "," key } ]
-- with at most `items` items; `lines` is the name `lines`, compared exactly
pub data IsQuery (limits : Limits) : List Token → Query → List Token → Type 0 where
  query : {ts mid after_from after_where after_groups after_having r : List Token}
      {i : SelectItem} {is : List SelectItem} {p h : Option Predicate} {d : Bool}
      {gs : List GroupingElement} {ks : List SortKey}
      → IsItem limits ts i mid
      → IsRepeated (tokens.Sign s.Comma) (IsItem limits) mid is
      (tokens.Word w.From ∷ tokens.Name (codes "lines") ∷ after_from)
      → length is < limits.items
      → IsClause w.Where limits after_from p after_where
      → IsGroupBy limits after_where d gs after_groups
      → IsClause w.Having limits after_groups h after_having → IsOrderBy limits after_having ks r
      → IsQuery limits (tokens.Word w.Select ∷ ts) record {
        items = i ∷ is;
        where_condition = p;
        distinct_sets = d;
        groups = gs;
        having_condition = h;
        keys = ks;
      } r

-- All of the tokens derive the query, within these limits.
abbrev pub DerivesWithin : Limits → List Token → Query → Type 0
DerivesWithin limits ts q = IsQuery limits ts q []
