-- Queries that derive from tokens are read.
use Rattle.std.proofs.Common.{arith, ◌-◌, ◌≡◌, suc, Bool, List, [], ◌∷◌, Option, None, Result, Ok, Err, refl, sym, ◌∙◌}
use Rattle.std.specs.Prelude.{codes, Box, MatchResult}
use Rattle.std.specs.Global.{Global}
use Rattle.semantics.specs.declared.token.Token.{Token}
use Rattle.semantics.specs.declared.token.Token.TheVariants as tokens
use Rattle.semantics.specs.declared.token.Word.TheVariants as w
use Rattle.semantics.specs.declared.token.Sign.TheVariants as s
use Rattle.query_parser.proofs.Inversions.{ok_is}
use Rattle.query_ast.specs.declared.tree.Tree.{Tree}
use Rattle.semantics.specs.Syntax.{Expression, Predicate, GroupingElement, SelectItem, SortKey, Query}
use Rattle.query_ast.specs.Syntax.{tree_form}
use Rattle.query_parser.specs.declared.fault.GrammarFault.{GrammarFault}
use Rattle.query_parser.specs.declared.fault.GrammarFault.TheVariants as faults
use Rattle.semantics.specs.Leaves.{Limits, language_limits, IsOptional}
use Rattle.query_parser.specs.Inside.Fronts.{is_word, is_sign, after}
use Rattle.query_parser.specs.Inside.Steps.{Gives, name_at}
use Rattle.query_parser.specs.Inside.GroupSteps.{group_at}
use Rattle.query_parser.specs.Inside.QuerySteps.{alias_at, item_at, items_at, from_at, clause_at, groups_at, select_at, records_at, rows_at, query_at, whole_at, set_quantifier_at, elements_at}
use Rattle.query_parser.specs.Inside.ExpressionSteps.{expression_at, begins_expression}
use Rattle.query_parser.specs.Inside.PredicateSteps.{inside_of, any_front}
use Rattle.semantics.specs.Productions.{IsExpression, IsPredicate}
use Rattle.semantics.specs.Grammar.{IsItem, IsGroup, IsGroupBy, IsOrderBy, IsQuery, DerivesWithin, IsClause}
use Rattle.query_parser.proofs.Agree.{Wider, wider_same}
use Rattle.query_parser.proofs.CompleteLists.{repeated_follow, repeated_c, unlimited_c}
use Rattle.query_parser.proofs.CompleteExpressions.{EndsFunction, expression_c}
use Rattle.query_parser.proofs.CompletePredicates.{EndsPredicate, group_ends, having_ends, order_ends, nil_ends, predicate_c, bracketed_c}
use Rattle.query_parser.proofs.CompleteGroups.{group_short, group_c, group_begins}
use Rattle.query_parser.proofs.CompleteKeys.{EndsKeys, keys_c, nil_ends_keys}

-- Neither a FILTER nor an alias goes on an item that ends here.
record EndsItem (r : List Token) : Type 0 where
  no_filter : EndsFunction r
  no_as : after (is_word w.As) r ≡ None

item_expression_c : {narrow wide : Limits} → Wider narrow wide → {ts r : List Token} {e : Expression} → IsExpression narrow (IsPredicate narrow narrow.levels) ts e r → EndsFunction r → expression_at (inside_of wide wide.levels) ts ≡ Ok (e, r)
item_expression_c {narrow} {wide} wider i q = expression_c narrow (IsPredicate narrow narrow.levels) (inside_of wide wide.levels) wider (bracketed_c narrow wide wider narrow.levels wide.levels wider.levels) i q

comma_ends_item : (ts : List Token) → EndsItem (tokens.Sign s.Comma ∷ ts)
comma_ends_item ts = record { no_filter = refl; no_as = refl }

from_ends_item : (ts : List Token) → EndsItem (tokens.Word w.From ∷ ts)
from_ends_item ts = record { no_filter = refl; no_as = refl }

item_c : {narrow wide : Limits} → Wider narrow wide → (ts r : List Token) (i : SelectItem) → IsItem narrow ts i r → EndsItem r → item_at wide ts ≡ Ok (i, r)
unfolding item_at alias_at name_at
item_c wider _ _ _ (IsItem.plain e) q = rw (item_expression_c wider e q.no_filter, q.no_as) refl
item_c wider _ _ _ (IsItem.named e) q = rw (item_expression_c wider e refl) refl

from_c : (r : List Token) → from_at (tokens.Word w.From ∷ tokens.Name (codes "lines") ∷ r) ≡ Ok r
unfolding from_at name_at
from_c r = refl

-- What may stand behind WHERE, written or not.
record EndsWhere (r : List Token) : Type 0 where
  predicate : EndsPredicate r
  no_where : after (is_word w.Where) r ≡ None

where_c : {narrow wide : Limits} → Wider narrow wide → {ts r : List Token} {p : Option Predicate} → IsClause w.Where narrow ts p r → EndsWhere r → clause_at wide w.Where ts ≡ Ok (p, r)
unfolding clause_at
where_c wider IsClause.none q = rw q.no_where refl
where_c {narrow} {wide} wider (IsClause.condition {ts} {r} {p} i) q = rw (predicate_c narrow wide wider (suc narrow.levels) (suc wide.levels) (omega (arith, wider.levels)) ts r p i q.predicate) refl

-- What may stand behind GROUP BY, written or not.
record EndsGroups (r : List Token) : Type 0 where
  ends_where : EndsWhere r
  no_group : after (is_word w.Group) r ≡ None
  no_comma : after (is_sign s.Comma) r ≡ None

-- A DISTINCT that is not written ends where no DISTINCT stands.
set_quantifier_c : {ts us : List Token} {d : Bool} → IsOptional w.Distinct ts d us → after (is_word w.Distinct) us ≡ None → set_quantifier_at ts ≡ (d, us)
unfolding set_quantifier_at
set_quantifier_c IsOptional.none q = rw q refl
set_quantifier_c IsOptional.written q = refl

groups_c : {narrow wide : Limits} → Wider narrow wide → {ts r : List Token} {d : Bool} {gs : List GroupingElement} → IsGroupBy narrow ts d gs r → EndsGroups r → groups_at wide ts ≡ Ok ((d, gs), r)
unfolding groups_at elements_at
groups_c wider IsGroupBy.none q = rw q.no_group refl
groups_c {narrow} {wide} wider (IsGroupBy.groups {ts} {us} {mid} {r} {d} {g} {gs} quantifier p b) q =
    rw (
      set_quantifier_c quantifier (group_begins narrow.sets us mid g p),
      group_c narrow.sets wide.sets wider.sets us mid g p,
      unlimited_c (tokens.Sign s.Comma) (is_sign s.Comma) any_front (IsGroup narrow.sets) (group_at wide.sets) (λ _. Unit {0}) refl (λ _. tt) (λ us v x j _. group_c narrow.sets wide.sets wider.sets us v x j) (group_short narrow.sets) b tt q.no_comma,
    ) refl

-- WHERE ends where GROUP BY begins, written or not.
groups_begin : {limits : Limits} {ts r : List Token} {d : Bool} {gs : List GroupingElement} → IsGroupBy limits ts d gs r → EndsGroups r → EndsWhere ts
groups_begin IsGroupBy.none q = q.ends_where
groups_begin (IsGroupBy.groups {ts} quantifier p b) q = record { predicate = group_ends (tokens.Word w.By ∷ ts); no_where = refl }

-- What may stand behind HAVING, written or not.
record EndsHaving (r : List Token) : Type 0 where
  ends_groups : EndsGroups r
  no_having : after (is_word w.Having) r ≡ None

having_c : {narrow wide : Limits} → Wider narrow wide → {ts r : List Token} {p : Option Predicate} → IsClause w.Having narrow ts p r → EndsHaving r → clause_at wide w.Having ts ≡ Ok (p, r)
unfolding clause_at
having_c wider IsClause.none q = rw q.no_having refl
having_c {narrow} {wide} wider (IsClause.condition {ts} {r} {p} i) q = rw (predicate_c narrow wide wider (suc narrow.levels) (suc wide.levels) (omega (arith, wider.levels)) ts r p i q.ends_groups.ends_where.predicate) refl

-- GROUP BY ends where HAVING begins, written or not.
having_begins : {limits : Limits} {ts r : List Token} {p : Option Predicate} → IsClause w.Having limits ts p r → EndsHaving r → EndsGroups ts
having_begins IsClause.none q = q.ends_groups
having_begins (IsClause.condition {ts} i) q = record { ends_where = record { predicate = having_ends ts; no_where = refl }; no_group = refl; no_comma = refl }

-- What may stand behind a query.
record EndsQuery (r : List Token) : Type 0 where
  ends_having : EndsHaving r
  ends_keys : EndsKeys r

-- HAVING ends where ORDER BY begins, written or not.
keys_begin : {limits : Limits} {ts r : List Token} {ks : List SortKey} → IsOrderBy limits ts ks r → EndsQuery r → EndsHaving ts
keys_begin IsOrderBy.none q = q.ends_having
keys_begin (IsOrderBy.keys {ts} p b) q = record {
  ends_groups = record { ends_where = record { predicate = order_ends (tokens.Word w.By ∷ ts); no_where = refl }; no_group = refl; no_comma = refl };
  no_having = refl;
}

query_c : {narrow wide : Limits} → Wider narrow wide → {ts r : List Token} {q : Query} → IsQuery narrow ts q r → EndsQuery r → query_at wide ts ≡ Ok (q, r)
unfolding query_at select_at records_at rows_at items_at
query_c {narrow} {wide} wider (IsQuery.query {ts} {mid} {after_from} {after_where} {after_groups} {after_having} {r} {i} {is} {p} {h} {d} {gs} {ks} first others few d_where d_groups d_having d_keys) q =
    let behind_groups : EndsHaving after_having = keys_begin d_keys q in
    let behind_where : EndsGroups after_groups = having_begins d_having behind_groups in
    rw (
      item_c wider ts mid i first (repeated_follow (tokens.Sign s.Comma) (IsItem narrow) EndsItem comma_ends_item others (from_ends_item _)),
      repeated_c (tokens.Sign s.Comma) (is_sign s.Comma) begins_expression (IsItem narrow) (item_at wide) EndsItem refl comma_ends_item (item_c wider) others (wide.items - 1) (omega (arith, few, wider.items)) (from_ends_item _) refl,
      from_c after_from,
      where_c wider d_where (groups_begin d_groups behind_where),
      groups_c wider d_groups behind_where,
      having_c wider d_having behind_groups,
      keys_c wider d_keys q.ends_keys,
    ) refl

nil_ends_query : EndsQuery []
nil_ends_query = record {
  ends_having = record { ends_groups = record { ends_where = record { predicate = nil_ends; no_where = refl }; no_group = refl; no_comma = refl }; no_having = refl };
  ends_keys = nil_ends_keys;
}

-- A query that derives within some limits is read within wider ones.
pub whole_c : {narrow wide : Limits} → Wider narrow wide → (ts : List Token) (q : Query) → DerivesWithin narrow ts q → whole_at wide ts ≡ Ok q
unfolding whole_at
whole_c wider ts q d = rw (query_c wider d nil_ends_query) refl

-- What is derived is read.
pub read : (ts : List Token) (r : Result (Box Tree Global) GrammarFault) → Gives (λ t. tree_form t.value) r (whole_at language_limits ts) → (q : Query) → DerivesWithin language_limits ts q → MatchResult r (λ t. tree_form t.value ≡ q) (λ e. e ≡ faults.OutOfMemory)
read ts (Ok t) e q d = ok_is (tree_form t.value) q (sym e ∙ whole_c (wider_same language_limits) ts q d)
read ts (Err faults.OutOfMemory) e q d = refl
read ts (Err faults.OverLimit) (n, e) q d = absurd (let k = whole_c (wider_same language_limits) ts q d in cc)
read ts (Err (faults.Unexpected n)) e q d = absurd (let k = whole_c (wider_same language_limits) ts q d in cc)

-- No tokens derive two queries: what they derive is what is read of them.
pub one : (ts : List Token) (p q : Query) → DerivesWithin language_limits ts p → DerivesWithin language_limits ts q → p ≡ q
one ts p q d e = ok_is p q (sym (whole_c (wider_same language_limits) ts p d) ∙ whole_c (wider_same language_limits) ts q e)
