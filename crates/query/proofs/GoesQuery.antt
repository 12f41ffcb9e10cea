-- The canonical text of a good query spells its tokens.
use Rattle.std.proofs.Common.{Bool, true, false, List, [], ◌∷◌, ◌++◌, map, Option, Some, None}
use Rattle.std.specs.Prelude.{codes}
use Rattle.semantics.specs.declared.token.Token.TheVariants as tokens
use Rattle.semantics.specs.declared.token.Word.TheVariants as w
use Rattle.semantics.specs.Syntax.{Predicate, GroupingElement, SelectItem, SortKey, Query, element_forms}
use Rattle.semantics.specs.Canonical.{comma_list, item_text, group_texts, nulls_text, direction_text, key_text, predicate_clause, list_clause, canonical_text, group_by_text}
use Rattle.query.proofs.Good.{Each, Within, Good, GoodItem, GoodKey, GoodTree, GoodGroupBy}
use Rattle.query.proofs.Onto.{commas_onto, item_onto, group_onto, from_onto, where_onto, group_by_onto, having_onto, direction_onto, nulls_onto, key_onto, order_by_onto, query_onto, distinct_onto}
use Rattle.query.proofs.Spelled.{spelled_lines}
use Rattle.query.proofs.Goes.{Free, Goes, Begins, free_free, free_goes, goes_goes, begins_of, nothing_goes, nothing_begins, word_goes, word_free, spaced_free, space_free, space_breaks, commas_go, each_goes}
use Rattle.query.proofs.GoesExpressions.{alias_goes, alias_begins, filled_go}
use Rattle.query.proofs.GoesPredicates.{expression_goes, predicate_goes}
use Rattle.query.proofs.GoesGroups.{groups_go}

lines_goes : Goes (codes "lines") (λ ks. tokens.Name (codes "lines") ∷ ks)
lines_goes = record { goes = λ rest ks q h. spelled_lines q h }

from_goes : Goes (codes " FROM lines") from_onto
from_goes = free_goes (spaced_free (word_free w.From)) lines_goes

-- ---- clauses

where_free : Free (codes " WHERE ") (λ ks. tokens.Word w.Where ∷ ks)
where_free = spaced_free (word_free w.Where)

where_goes : (p : Option Predicate) → Within (λ p. Good p 64) p → Goes (predicate_clause (codes " WHERE ") p) (where_onto p)
where_goes None g = nothing_goes
where_goes (Some p) g = free_goes where_free (predicate_goes p 64 g)

where_begins : (p : Option Predicate) → Begins (predicate_clause (codes " WHERE ") p)
where_begins None = nothing_begins
where_begins (Some p) = begins_of (space_breaks _)

group_by_free : (d : Bool) → Free (group_by_text d) (λ ks. tokens.Word w.Group ∷ tokens.Word w.By ∷ distinct_onto d ks)
group_by_free true = free_free (free_free (spaced_free (word_free w.Group)) (word_free w.By)) (word_free w.Distinct)
group_by_free false = free_free (spaced_free (word_free w.Group)) (word_free w.By)

group_by_goes : (d : Bool) (gs : List GroupingElement) → GoodGroupBy d gs → Goes (list_clause (group_by_text d) (group_texts (element_forms gs))) (group_by_onto d gs)
group_by_goes d [] g = nothing_goes
group_by_goes d (x ∷ gs) g = free_goes (group_by_free d) (commas_go (group_texts (element_forms (x ∷ gs))) (map group_onto (x ∷ gs)) (groups_go (x ∷ gs) g))

group_by_begins : (d : Bool) (gs : List GroupingElement) → Begins (list_clause (group_by_text d) (group_texts (element_forms gs)))
group_by_begins d [] = nothing_begins
group_by_begins true (x ∷ gs) = begins_of (space_breaks _)
group_by_begins false (x ∷ gs) = begins_of (space_breaks _)

having_free : Free (codes " HAVING ") (λ ks. tokens.Word w.Having ∷ ks)
having_free = spaced_free (word_free w.Having)

having_goes : (p : Option Predicate) → Within (λ p. Good p 64) p → Goes (predicate_clause (codes " HAVING ") p) (having_onto p)
having_goes None g = nothing_goes
having_goes (Some p) g = free_goes having_free (predicate_goes p 64 g)

having_begins : (p : Option Predicate) → Begins (predicate_clause (codes " HAVING ") p)
having_begins None = nothing_begins
having_begins (Some p) = begins_of (space_breaks _)

-- ---- keys

direction_goes : (d : Bool) → Goes (direction_text d) (direction_onto d)
direction_goes true = free_goes space_free (word_goes w.Desc)
direction_goes false = nothing_goes

direction_begins : (d : Bool) → Begins (direction_text d)
direction_begins true = begins_of (space_breaks _)
direction_begins false = nothing_begins

nulls_free : Free (codes " NULLS ") (λ ks. tokens.Word w.Nulls ∷ ks)
nulls_free = spaced_free (word_free w.Nulls)

nulls_go : (d n : Bool) → Goes (nulls_text d n) (nulls_onto d n)
nulls_go true true = nothing_goes
nulls_go true false = free_goes nulls_free (word_goes w.Last)
nulls_go false true = free_goes nulls_free (word_goes w.First)
nulls_go false false = nothing_goes

nulls_begin : (d n : Bool) → Begins (nulls_text d n)
nulls_begin true true = nothing_begins
nulls_begin true false = begins_of (space_breaks _)
nulls_begin false true = begins_of (space_breaks _)
nulls_begin false false = nothing_begins

item_goes : (i : SelectItem) → GoodItem i → Goes (item_text i) (item_onto i)
item_goes i g = goes_goes (expression_goes i.expression 64 g.0) (alias_begins i.alias) (alias_goes i.alias g.1)

key_goes : (k : SortKey) → GoodKey k → Goes (key_text k) (key_onto k)
key_goes k g =
    let directed = goes_goes (expression_goes k.expression 64 g) (direction_begins k.descending) (direction_goes k.descending) in
    goes_goes directed (nulls_begin k.descending k.nulls_first) (nulls_go k.descending k.nulls_first)

order_by_free : Free (codes " ORDER BY ") (λ ks. tokens.Word w.Order ∷ tokens.Word w.By ∷ ks)
order_by_free = free_free (spaced_free (word_free w.Order)) (word_free w.By)

order_by_goes : (ks : List SortKey) → Each GoodKey ks → Goes (list_clause (codes " ORDER BY ") (map key_text ks)) (order_by_onto ks)
order_by_goes [] g = nothing_goes
order_by_goes (k ∷ ks) g =
    free_goes order_by_free (commas_go (map key_text (k ∷ ks)) (map key_onto (k ∷ ks)) (each_goes GoodKey key_text key_onto key_goes (k ∷ ks) g))

order_by_begins : (ks : List SortKey) → Begins (list_clause (codes " ORDER BY ") (map key_text ks))
order_by_begins [] = nothing_begins
order_by_begins (k ∷ ks) = begins_of (space_breaks _)

-- ---- the query

items_go : (q : Query) → GoodTree q
    → Goes (codes "SELECT " ++ comma_list (map item_text q.items)) (λ ks. tokens.Word w.Select ∷ commas_onto (map item_onto q.items) ks)
items_go q g =
    free_goes (word_free w.Select) (filled_go 64 GoodItem item_text item_onto item_goes q.items g.0)

pub query_goes : (q : Query) → GoodTree q → Goes (canonical_text q) (query_onto q)
query_goes q g =
    let head = goes_goes (items_go q g) (begins_of (space_breaks _)) from_goes in
    let body = goes_goes (goes_goes head (where_begins q.where_condition) (where_goes q.where_condition g.1)) (group_by_begins q.distinct_sets q.groups) (group_by_goes q.distinct_sets q.groups g.2) in
    goes_goes (goes_goes body (having_begins q.having_condition) (having_goes q.having_condition g.3)) (order_by_begins q.keys) (order_by_goes q.keys g.4)
