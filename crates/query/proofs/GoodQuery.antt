-- A query that sane tokens derive is good.
use Rattle.std.proofs.Common.{Bool, List, ◌∷◌, Option}
use Rattle.semantics.specs.declared.token.Token.{Token}
use Rattle.semantics.specs.declared.token.Token.TheVariants as tokens
use Rattle.semantics.specs.declared.token.Word.TheVariants as w
use Rattle.semantics.specs.declared.token.Sign.TheVariants as s
use Rattle.semantics.specs.Syntax.{Expression, Predicate, GroupingElement, SelectItem, SortKey, Query}
use Rattle.semantics.specs.Leaves.{language_limits, IsOptional}
use Rattle.semantics.specs.Productions.{IsExpression, IsPredicate}
use Rattle.semantics.specs.Grammar.{IsItem, IsGroup, IsGroupBy, IsDirection, IsNullOrdering, IsKey, IsOrderBy, IsQuery, IsClause}
use Rattle.query.proofs.Good.{Each, Within, GoodExpression, Good, GoodItem, GoodElement, GoodKey, GoodTree, GoodGroupBy}
use Rattle.query.proofs.GoodPredicates.{Leaves, repeated_leaves, expression_leaves, predicate_leaves}
use Rattle.query.proofs.GoodGroups.{group_leaves}
use Rattle.query.proofs.Sane.{AllSane}

-- The expression of an item or of a key.
item_expression_leaves : Leaves Expression (IsExpression language_limits (IsPredicate language_limits 64)) (λ e. GoodExpression e 64)
item_expression_leaves = expression_leaves 64 (IsPredicate language_limits 64) (predicate_leaves 64)

item_leaves : Leaves SelectItem (IsItem language_limits) GoodItem
item_leaves ts r _ (IsItem.plain {e} d) h = let g = item_expression_leaves ts r e d h in ((g.0, tt), g.1)
item_leaves ts r _ (IsItem.named {e} {n} d) h = let g = item_expression_leaves ts (tokens.Word w.As ∷ tokens.Name n ∷ r) e d h in ((g.0, g.1.1.0), g.1.1.1)

where_leaves : Leaves (Option Predicate) (IsClause w.Where language_limits) (Within (λ p. Good p 64))
where_leaves _ _ _ IsClause.none h = (tt, h)
where_leaves _ r _ (IsClause.condition {ts} {p} d) h = predicate_leaves 65 ts r p d h.1

set_quantifier_leaves : {ts r : List Token} {d : Bool} → IsOptional w.Distinct ts d r → AllSane ts → AllSane r
set_quantifier_leaves IsOptional.none h = h
set_quantifier_leaves IsOptional.written h = h.1

group_by_leaves : {ts r : List Token} {d : Bool} {gs : List GroupingElement} → IsGroupBy language_limits ts d gs r → AllSane ts → GoodGroupBy d gs × AllSane r
group_by_leaves IsGroupBy.none h = (tt, h)
group_by_leaves (IsGroupBy.groups {us} {mid} {g = x} quantifier front tail) h =
    let first = group_leaves 16 us mid x front (set_quantifier_leaves quantifier h.1.1) in
    let others = repeated_leaves GroupingElement (tokens.Sign s.Comma) (IsGroup 16) GoodElement (group_leaves 16) tail first.1 in
    ((first.0, others.0), others.1)

having_leaves : Leaves (Option Predicate) (IsClause w.Having language_limits) (Within (λ p. Good p 64))
having_leaves _ _ _ IsClause.none h = (tt, h)
having_leaves _ r _ (IsClause.condition {ts} {p} d) h = predicate_leaves 65 ts r p d h.1

direction_leaves : {ts r : List Token} {d : Bool} → IsDirection ts d r → AllSane ts → AllSane r
direction_leaves IsDirection.none h = h
direction_leaves IsDirection.ascending h = h.1
direction_leaves IsDirection.descending h = h.1

null_ordering_leaves : {ts r : List Token} {d n : Bool} → IsNullOrdering d ts n r → AllSane ts → AllSane r
null_ordering_leaves IsNullOrdering.none h = h
null_ordering_leaves IsNullOrdering.first h = h.1.1
null_ordering_leaves IsNullOrdering.last h = h.1.1

key_leaves : Leaves SortKey (IsKey language_limits) GoodKey
key_leaves _ _ _ (IsKey.key {ts} {u} {e} d direction nulls) h =
    let g = item_expression_leaves ts u e d h in
    (g.0, null_ordering_leaves nulls (direction_leaves direction g.1))

order_by_leaves : Leaves (List SortKey) (IsOrderBy language_limits) (Each GoodKey)
order_by_leaves _ _ _ IsOrderBy.none h = (tt, h)
order_by_leaves _ _ _ (IsOrderBy.keys {ts} {mid} {k} d tail) h =
    let first = key_leaves ts mid k d h.1.1 in
    let others = repeated_leaves SortKey (tokens.Sign s.Comma) (IsKey language_limits) GoodKey key_leaves tail first.1 in
    ((first.0, others.0), others.1)

-- A query that sane tokens derive is good.
pub query_leaves : Leaves Query (IsQuery language_limits) GoodTree
query_leaves _ r _ (IsQuery.query {ts} {mid} {after_from} {after_where} {after_groups} {after_having} {i} {is} {p} {h = had} {gs} {ks} d tail few d_where d_groups d_having d_keys) h =
    let first = item_leaves ts mid i d h.1 in
    let others = repeated_leaves SelectItem (tokens.Sign s.Comma) (IsItem language_limits) GoodItem item_leaves tail first.1 in
    let where_condition = where_leaves after_from after_where p d_where others.1.1.1 in
    let groups = group_by_leaves d_groups where_condition.1 in
    let having_condition = having_leaves after_groups after_having had d_having groups.1 in
    let keys = order_by_leaves after_having r ks d_keys having_condition.1 in
    (((first.0, others.0, few), where_condition.0, groups.0, having_condition.0, keys.0), keys.1)
