-- The tokens of a good query derive it.
use Rattle.std.proofs.Common.{ℕ, Bool, true, false, List, [], ◌∷◌, map, Option, Some, None}
use Rattle.semantics.specs.declared.token.Token.{Token}
use Rattle.semantics.specs.Syntax.{Expression, Predicate, GroupingElement, SelectItem, SortKey, Query}
use Rattle.semantics.specs.Leaves.{language_limits, IsOptional}
use Rattle.semantics.specs.Grammar.{IsItem, IsGroup, IsGroupBy, IsDirection, IsNullOrdering, IsKey, IsOrderBy, IsQuery, IsClause}
use Rattle.query.proofs.Good.{Each, Within, GoodExpression, Good, GoodItem, GoodElement, GoodGroupBy, GoodKey, GoodTree}
use Rattle.query.proofs.Onto.{expression_onto, alias_onto, item_onto, group_onto, commas_onto, where_onto, distinct_onto, group_by_onto, having_onto, direction_onto, nulls_onto, key_onto, order_by_onto, query_onto}
use Rattle.query.proofs.DerivePredicates.{commas_derive, expression_d, predicate_d}
use Rattle.query.proofs.DeriveGroups.{group_d}
use Rattle.semantics.specs.declared.token.Word.TheVariants as w

aliased_d : (e : Expression) (n : Option (List ℕ)) (r : List Token) → GoodExpression e 64
    → IsItem language_limits (expression_onto e (alias_onto n r)) record { expression = e; alias = n } r
aliased_d e None r g = IsItem.plain (expression_d e 64 r g)
aliased_d e (Some n) r g = IsItem.named (expression_d e 64 _ g)

item_d : (i : SelectItem) (r : List Token) → GoodItem i → IsItem language_limits (item_onto i r) i r
item_d i r g = aliased_d i.expression i.alias r g.0

where_d : (p : Option Predicate) (r : List Token) → Within (λ p. Good p 64) p → IsClause w.Where language_limits (where_onto p r) p r
where_d None r g = IsClause.none
where_d (Some p) r g = IsClause.condition (predicate_d p 64 r g)

set_quantifier_d : (d : Bool) (r : List Token) → IsOptional w.Distinct (distinct_onto d r) d r
set_quantifier_d true r = IsOptional.written
set_quantifier_d false r = IsOptional.none

group_by_d : (d : Bool) (gs : List GroupingElement) (r : List Token) → GoodGroupBy d gs → IsGroupBy language_limits (group_by_onto d gs r) d gs r
group_by_d true [] r g = absurd g
group_by_d false [] r g = IsGroupBy.none
group_by_d d (x ∷ gs) r g =
    IsGroupBy.groups (set_quantifier_d d (commas_onto (map group_onto (x ∷ gs)) r)) (group_d x 16 _ g.0) (commas_derive (IsGroup 16) group_onto GoodElement (λ y. group_d y 16) gs r g.1)

having_d : (p : Option Predicate) (r : List Token) → Within (λ p. Good p 64) p → IsClause w.Having language_limits (having_onto p r) p r
having_d None r g = IsClause.none
having_d (Some p) r g = IsClause.condition (predicate_d p 64 r g)

direction_d : (d : Bool) (r : List Token) → IsDirection (direction_onto d r) d r
direction_d true r = IsDirection.descending
direction_d false r = IsDirection.none

nulls_d : (d n : Bool) (r : List Token) → IsNullOrdering d (nulls_onto d n r) n r
nulls_d true true r = IsNullOrdering.none
nulls_d true false r = IsNullOrdering.last
nulls_d false true r = IsNullOrdering.first
nulls_d false false r = IsNullOrdering.none

key_d : (k : SortKey) (r : List Token) → GoodKey k → IsKey language_limits (key_onto k r) k r
key_d k r g = IsKey.key (expression_d k.expression 64 _ g) (direction_d k.descending _) (nulls_d k.descending k.nulls_first r)

order_by_d : (ks : List SortKey) (r : List Token) → Each GoodKey ks → IsOrderBy language_limits (order_by_onto ks r) ks r
order_by_d [] r g = IsOrderBy.none
order_by_d (k ∷ ks) r g = IsOrderBy.keys (key_d k _ g.0) (commas_derive (IsKey language_limits) key_onto GoodKey key_d ks r g.1)

abbrev tree : List SelectItem → Option Predicate → Bool → List GroupingElement → Option Predicate → List SortKey → Query
tree is p d gs h ks = record { items = is; where_condition = p; distinct_sets = d; groups = gs; having_condition = h; keys = ks }

parts_d : (is : List SelectItem) (p : Option Predicate) (d : Bool) (gs : List GroupingElement) (h : Option Predicate) (ks : List SortKey) (r : List Token)
    → GoodTree (tree is p d gs h ks) → IsQuery language_limits (query_onto (tree is p d gs h ks) r) (tree is p d gs h ks) r
parts_d [] p d gs h ks r g = absurd g.0
parts_d (i ∷ is) p d gs h ks r g =
    let items = g.0 in
    let others = commas_derive (IsItem language_limits) item_onto GoodItem item_d is _ items.1 in
    IsQuery.query (item_d i _ items.0) others items.2 (where_d p _ g.1) (group_by_d d gs _ g.2) (having_d h _ g.3) (order_by_d ks r g.4)

-- The tokens of a good query derive it.
pub query_d : (q : Query) (r : List Token) → GoodTree q → IsQuery language_limits (query_onto q r) q r
query_d q r g = parts_d q.items q.where_condition q.distinct_sets q.groups q.having_condition q.keys r g
