-- The reader of queries is local: it looks at no token behind the first one that it leaves.
use Rattle.std.proofs.Common.{arith, length, take, drop, ◌<◌, ◌≤◌, ◌+◌, ◌-◌, ◌≡◌, ◌⊎◌, inl, inr, ℕ, zero, suc, Bool, true, false, cond, List, [], ◌∷◌, ◌++◌, Option, Some, None, Result, Ok, Err, refl, ap, subst, ◌∙◌, length-drop, add-one}
use Rattle.std.specs.Prelude.{codes}
use Rattle.std.specs.Str.{bytes_eq}
use Rattle.semantics.specs.declared.token.Token.{Token}
use Rattle.semantics.specs.declared.token.Token.TheVariants as tokens
use Rattle.semantics.specs.declared.token.Word.{Word}
use Rattle.semantics.specs.declared.token.Word.TheVariants as w
use Rattle.semantics.specs.declared.token.Sign.TheVariants as s
use Rattle.query_lexer.specs.Options.{choose}
use Rattle.semantics.specs.Syntax.{Expression, Predicate, GroupingElement, SelectItem, SortKey, Query, set, rollup, cube, sets, element_forms}
use Rattle.query_parser.specs.Inside.Stops.{Stop}
use Rattle.query_parser.specs.Inside.Stops as halts
use Rattle.query_parser.specs.Inside.Fronts.{is_word, is_sign, after}
use Rattle.query_parser.specs.Inside.Steps.{Reader, unexpected_at, found_or_unexpected, with_front, more, name_at, begins_name}
use Rattle.query_parser.specs.Inside.ExpressionSteps.{expression_at, begins_expression}
use Rattle.query_parser.specs.Inside.PredicateSteps.{predicate_at, inside_of, any_front}
use Rattle.query_parser.specs.Inside.GroupSteps.{all_at, enclosed_at, begins_unit, unit_at, units_at, nothing_at, set_at, element_at, sets_at, group_at}
use Rattle.query_parser.specs.Inside.KeySteps.{direction_at, null_ordering_at, key_at, keys_at}
use Rattle.query_parser.specs.Inside.QuerySteps.{alias_at, item_at, items_at, from_at, clause_at, set_quantifier_at, elements_at, groups_at, select_at, records_at, rows_at, query_at, at_end, whole_at}
use Rattle.query_parser.proofs.Local.{SameFront, IsFront, Local, Shares, left_of, local_loose, local_as, local_end, local_head, local_ok, local_stuck, local_over, local_choose, local_front, local_bind, local_found_or_stuck, local_found_or_stuck_front, local_all}
use Rattle.query_parser.proofs.LocalLeaves.{TellsByFront, local_listed, local_closed, name_front, name_told}
use Rattle.semantics.specs.Leaves.{Limits, language_limits}
use Rattle.semantics.specs.Grammar.{DerivesWithin}
use Rattle.semantics.specs.Prefixes.{BeginsWithin, Begins}
use Rattle.values.specs.Results.{◌>>=◌}
use Rattle.query_parser.proofs.Agree.{both, wider_same, wider_one, wider_other, agrees_unexpected}
use Rattle.query_parser.proofs.AgreeQuery.{whole_agrees}
use Rattle.query_parser.proofs.Complete.{whole_c}
use Rattle.query_parser.proofs.LocalPredicates.{local_made, any_told, expression_l, expression_told, predicate_l}

-- ---- lists

all_l : {A : Type 0} (b : List Token → Bool) (f : Reader A) → TellsByFront b → Local true f → Local true (all_at b f)
all_l b f front lf = local_bind f (λ x us. with_front (x ∷ []) (more (is_sign s.Comma) b f (length us) us)) lf
    (λ x. local_bind (λ us. more (is_sign s.Comma) b f (length us) us) (λ xs us. Ok ((x ∷ []) ++ xs, us)) (local_all (is_sign s.Comma) b f front lf) (λ xs. local_ok ((x ∷ []) ++ xs)))

enclosed_l : {A : Type 0} (b : List Token → Bool) (f : Reader A) → TellsByFront b → Local true f → Local true (enclosed_at b f)
enclosed_l b f front lf = local_found_or_stuck (is_sign s.Open) (λ a. all_at b f a >>= λ all. found_or_unexpected (after (is_sign s.Close)) all.1 >>= λ rest. Ok (all.0, rest))
    (local_bind (all_at b f) (λ xs us. found_or_unexpected (after (is_sign s.Close)) us >>= λ rest. Ok (xs, rest)) (all_l b f front lf) local_closed)

-- ---- units, sets and groups

names_l : Local true (enclosed_at begins_name (found_or_unexpected name_at))
names_l = enclosed_l begins_name (found_or_unexpected name_at) name_told (local_found_or_stuck_front name_at name_front)

unit_l : Local true unit_at
unfolding unit_at
unit_l = local_front name_at (λ ts. enclosed_at begins_name (found_or_unexpected name_at) ts) (λ n us. Ok (n ∷ [], us)) name_front names_l (λ n. local_ok (n ∷ []))

unit_told : TellsByFront begins_unit
unfolding begins_unit
unit_told (tokens.Name n) us vs = refl
unit_told (tokens.Sign s.Open) us vs = refl
unit_told t us vs = refl

units_l : Local true units_at
unfolding units_at
units_l = enclosed_l begins_unit unit_at unit_told unit_l

-- A unit or brackets round nothing, where the bracket is looked at first.
opened_at : Reader (List (List ℕ))
opened_at ts = choose (after (is_sign s.Open) ts) (unit_at ts) (λ a. choose (after (is_sign s.Close) a) (all_at begins_name (found_or_unexpected name_at) a >>= λ all. found_or_unexpected (after (is_sign s.Close)) all.1 >>= λ rest. Ok (all.0, rest)) (λ rest. Ok ([], rest)))

opened_l : Local true opened_at
unfolding opened_at
opened_l = local_choose (is_sign s.Open) unit_at (λ a. choose (after (is_sign s.Close) a) (all_at begins_name (found_or_unexpected name_at) a >>= λ all. found_or_unexpected (after (is_sign s.Close)) all.1 >>= λ rest. Ok (all.0, rest)) (λ rest. Ok ([], rest))) unit_l
    (local_choose (is_sign s.Close) (λ a. all_at begins_name (found_or_unexpected name_at) a >>= λ all. found_or_unexpected (after (is_sign s.Close)) all.1 >>= λ rest. Ok (all.0, rest)) (λ rest. Ok ([], rest))
    (local_bind (all_at begins_name (found_or_unexpected name_at)) (λ xs us. found_or_unexpected (after (is_sign s.Close)) us >>= λ rest. Ok (xs, rest)) (all_l begins_name (found_or_unexpected name_at) name_told (local_found_or_stuck_front name_at name_front)) local_closed)
    (local_ok []))

set_opened : (ts : List Token) → set_at ts ≡ opened_at ts
unfolding set_at opened_at nothing_at unit_at name_at
set_opened [] = refl
set_opened (tokens.Sign s.Open ∷ ts) = refl
set_opened (t ∷ ts) = refl

set_l : Local true set_at
set_l = local_as set_at opened_at set_opened opened_l

element_l : (nested : Reader GroupingElement) → Local false nested → Local true (element_at nested)
unfolding element_at
element_l nested ln =
    local_choose (is_word w.Rollup) (λ ts. choose (after (is_word w.Cube) ts) (choose (after (is_word w.Grouping) ts) (set_at ts >>= λ ns. Ok (set ns.0, ns.1)) (λ a. nested a)) (λ a. units_at a >>= λ us. Ok (cube us.0, us.1))) (λ a. units_at a >>= λ us. Ok (rollup us.0, us.1))
    (local_choose (is_word w.Cube) (λ ts. choose (after (is_word w.Grouping) ts) (set_at ts >>= λ ns. Ok (set ns.0, ns.1)) (λ a. nested a)) (λ a. units_at a >>= λ us. Ok (cube us.0, us.1))
    (local_choose (is_word w.Grouping) (λ ts. set_at ts >>= λ ns. Ok (set ns.0, ns.1)) nested (local_made set_at (λ ns. set ns) set_l) ln) (local_made units_at (λ us. cube us) units_l))
    (local_made units_at (λ us. rollup us) units_l)

sets_l : (n : ℕ) → Local false (sets_at n)
unfolding sets_at
sets_l zero = local_over
sets_l (suc n) = local_loose (λ ts. found_or_unexpected (after (is_word w.Sets)) ts >>= λ a. enclosed_at any_front (element_at (sets_at n)) a >>= λ gs. Ok (sets (element_forms gs.0), gs.1)) (local_found_or_stuck (is_word w.Sets) (λ a. enclosed_at any_front (element_at (sets_at n)) a >>= λ gs. Ok (sets (element_forms gs.0), gs.1))
    (local_made (enclosed_at any_front (element_at (sets_at n))) (λ gs. sets (element_forms gs)) (enclosed_l any_front (element_at (sets_at n)) any_told (element_l (sets_at n) (sets_l n)))))

group_l : (n : ℕ) → Local true (group_at n)
group_l n = element_l (sets_at n) (sets_l n)

-- ---- items

alias_l : Local true alias_at
unfolding alias_at
alias_l = local_choose (is_word w.As) (λ ts. Ok (None, ts)) (λ a. found_or_unexpected name_at a >>= λ n. Ok (Some n.0, n.1)) (local_ok None) (local_made (found_or_unexpected name_at) (λ n. Some n) (local_found_or_stuck_front name_at name_front))

item_l : (limits : Limits) → Local true (item_at limits)
unfolding item_at
item_l limits = local_bind (expression_at (inside_of limits limits.levels)) (λ e us. alias_at us >>= λ a. Ok (record { expression = e; alias = a.0 }, a.1)) (expression_l (inside_of limits limits.levels) (predicate_l limits limits.levels))
    (λ e. local_made alias_at (λ a. record { expression = e; alias = a }) alias_l)

items_l : (limits : Limits) → Local true (items_at limits)
unfolding items_at
items_l limits = local_listed begins_expression (item_at limits) expression_told (item_l limits) (limits.items - 1)

-- ---- the clauses

-- The name `lines` in front.
lines_at : List Token → Option (Unit {0} × List Token)
lines_at [] = None
lines_at (tokens.Name n ∷ ts) = cond (bytes_eq n (codes "lines")) (Some (tt, ts)) None
lines_at (t ∷ ts) = None

lines_token : (t : Token) → ((us : List Token) → lines_at (t ∷ us) ≡ None) ⊎ ((x : Unit {0}) × ((us : List Token) → lines_at (t ∷ us) ≡ Some (x, us)))
unfolding lines_at
lines_token (tokens.Name n) = of_test (bytes_eq n (codes "lines")) where
  of_test : (b : Bool) → ((us : List Token) → cond {A = Option (Unit {0} × List Token)} b (Some (tt, us)) None ≡ None) ⊎ ((x : Unit {0}) × ((us : List Token) → cond {A = Option (Unit {0} × List Token)} b (Some (tt, us)) None ≡ Some (x, us)))
  of_test true = inr (tt, λ us. refl)
  of_test false = inl (λ us. refl)
lines_token t = inl (λ us. refl)

lines_front : IsFront lines_at
unfolding lines_at
lines_front = record { at_end = refl; at_token = lines_token }

-- A value, with nothing taken.
abbrev beside : {A : Type 0} → A → Reader A
beside x ts = Ok (x, ts)

-- What is read behind FROM and `lines`.
from_way : {A : Type 0} (x : A) (ts : List Token) → (from_at ts >>= λ rest. beside x rest) ≡ (found_or_unexpected (after (is_word w.From)) ts >>= λ a. choose (lines_at a) (unexpected_at a) (λ l. beside x l.1))
unfolding from_at lines_at name_at
from_way {A} x ts = of_from (found_or_unexpected (after (is_word w.From)) ts) where
  of_test : (b : Bool) (a us : List Token) → (cond b (Ok us) (unexpected_at a) >>= λ rest. beside x rest) ≡ choose (cond {A = Option (Unit {0} × List Token)} b (Some (tt, us)) None) (unexpected_at a) (λ l. beside x l.1)
  of_test true a us = refl
  of_test false a us = refl

  of_name : (a : List Token) → ((found_or_unexpected name_at a >>= λ n. cond (bytes_eq n.0 (codes "lines")) (Ok n.1) (unexpected_at a)) >>= λ rest. beside x rest) ≡ choose (lines_at a) (unexpected_at a) (λ l. beside x l.1)
  of_name [] = refl
  of_name (tokens.Name n ∷ us) = of_test (bytes_eq n (codes "lines")) (tokens.Name n ∷ us) us
  of_name (t ∷ us) = refl

  of_from : (o : Result (List Token) Stop) → ((o >>= λ a. found_or_unexpected name_at a >>= λ n. cond (bytes_eq n.0 (codes "lines")) (Ok n.1) (unexpected_at a)) >>= λ rest. beside x rest) ≡ (o >>= λ a. choose (lines_at a) (unexpected_at a) (λ l. beside x l.1))
  of_from (Ok a) = of_name a
  of_from (Err e) = refl

from_l : {A : Type 0} (x : A) → Local true (λ ts. from_at ts >>= λ rest. beside x rest)
from_l x = local_as (λ ts. from_at ts >>= λ rest. beside x rest) (λ ts. found_or_unexpected (after (is_word w.From)) ts >>= λ a. choose (lines_at a) (unexpected_at a) (λ l. beside x l.1)) (from_way x)
    (local_found_or_stuck (is_word w.From) (λ a. choose (lines_at a) (unexpected_at a) (λ l. beside x l.1)) (local_front lines_at unexpected_at (λ _. beside x) lines_front local_stuck (λ _. local_ok x)))

clause_l : (limits : Limits) (word : Word) → Local true (clause_at limits word)
unfolding clause_at
clause_l limits word = local_choose (is_word word) (λ ts. Ok (None, ts)) (λ a. predicate_at limits (suc limits.levels) a >>= λ p. Ok (Some p.0, p.1)) (local_ok None) (local_made (predicate_at limits (suc limits.levels)) (λ p. Some p) (predicate_l limits (suc limits.levels)))

-- A word, or none, and what is read behind it.
quantifier_way : {A : Type 0} (g : Bool → Reader A) (ts : List Token) → g (set_quantifier_at ts).0 (set_quantifier_at ts).1 ≡ choose (after (is_word w.Distinct) ts) (g false ts) (λ a. g true a)
unfolding set_quantifier_at
quantifier_way {A} g ts = of_way (after (is_word w.Distinct) ts) where
  of_way : (o : Option (List Token)) → g (choose {B = Bool × List Token} o (false, ts) (λ r. (true, r))).0 (choose {B = Bool × List Token} o (false, ts) (λ r. (true, r))).1 ≡ choose o (g false ts) (λ a. g true a)
  of_way None = refl
  of_way (Some r) = refl

elements_l : (limits : Limits) → Local true (elements_at limits)
unfolding elements_at
elements_l limits = local_as (elements_at limits) (λ ts. choose (after (is_word w.Distinct) ts) (listed false ts) (λ a. listed true a)) (quantifier_way listed)
    (local_choose (is_word w.Distinct) (listed false) (listed true) (listed_l false) (listed_l true)) where
      listed : Bool → Reader (Bool × List GroupingElement)
      listed d us = all_at any_front (group_at limits.sets) us >>= λ gs. Ok ((d, gs.0), gs.1)

      listed_l : (d : Bool) → Local true (listed d)
      listed_l d = local_made (all_at any_front (group_at limits.sets)) (λ gs. (d, gs)) (all_l any_front (group_at limits.sets) any_told (group_l limits.sets))

groups_l : (limits : Limits) → Local true (groups_at limits)
unfolding groups_at
groups_l limits = local_choose (is_word w.Group) (λ ts. Ok ((false, []), ts)) (λ a. found_or_unexpected (after (is_word w.By)) a >>= λ b. elements_at limits b) (local_ok (false, [])) (local_found_or_stuck (is_word w.By) (elements_at limits) (elements_l limits))

select_l : (limits : Limits) → Local true (select_at limits)
unfolding select_at
select_l limits = local_found_or_stuck (is_word w.Select) (λ a. items_at limits a >>= λ is. from_at is.1 >>= λ rest. Ok (is.0, rest)) (local_bind (items_at limits) (λ is us. from_at us >>= λ rest. Ok (is, rest)) (items_l limits) from_l)

records_l : (limits : Limits) → Local true (records_at limits)
unfolding records_at
records_l limits = local_bind (clause_at limits w.Where) (λ p us. groups_at limits us >>= λ gs. Ok ((p, gs.0.0, gs.0.1), gs.1)) (clause_l limits w.Where) (λ p. local_made (groups_at limits) (λ gs. (p, gs.0, gs.1)) (groups_l limits))

-- ---- keys

direction_way : {A : Type 0} (g : Bool → Reader A) (ts : List Token) → g (direction_at ts).0 (direction_at ts).1 ≡ choose (after (is_word w.Desc) ts) (choose (after (is_word w.Asc) ts) (g false ts) (λ a. g false a)) (λ a. g true a)
unfolding direction_at
direction_way {A} g ts = of_way (after (is_word w.Desc) ts) (after (is_word w.Asc) ts) where
  of_way : (o p : Option (List Token)) → g (choose {B = Bool × List Token} o (choose {B = Bool × List Token} p (false, ts) (λ r. (false, r))) (λ r. (true, r))).0 (choose {B = Bool × List Token} o (choose {B = Bool × List Token} p (false, ts) (λ r. (false, r))) (λ r. (true, r))).1
      ≡ choose o (choose p (g false ts) (λ a. g false a)) (λ a. g true a)
  of_way None None = refl
  of_way None (Some r) = refl
  of_way (Some r) p = refl

null_ordering_l : (d : Bool) → Local true (null_ordering_at d)
unfolding null_ordering_at
null_ordering_l d = local_choose (is_word w.Nulls) (λ ts. Ok (d, ts)) (λ a. choose (after (is_word w.First) a) (found_or_unexpected (after (is_word w.Last)) a >>= λ r. Ok (false, r)) (λ r. Ok (true, r))) (local_ok d)
    (local_choose (is_word w.First) (λ a. found_or_unexpected (after (is_word w.Last)) a >>= λ r. Ok (false, r)) (λ r. Ok (true, r)) (local_found_or_stuck (is_word w.Last) (λ r. Ok (false, r)) (local_ok false)) (local_ok true))

key_l : (limits : Limits) → Local true (key_at limits)
unfolding key_at
key_l limits = local_bind (expression_at (inside_of limits limits.levels)) (λ e us. behind e (direction_at us).0 (direction_at us).1) (expression_l (inside_of limits limits.levels) (predicate_l limits limits.levels))
    (λ e. local_as (λ us. behind e (direction_at us).0 (direction_at us).1) (λ ts. choose (after (is_word w.Desc) ts) (choose (after (is_word w.Asc) ts) (behind e false ts) (λ a. behind e false a)) (λ a. behind e true a)) (direction_way (behind e))
    (local_choose (is_word w.Desc) (λ ts. choose (after (is_word w.Asc) ts) (behind e false ts) (λ a. behind e false a)) (behind e true) (local_choose (is_word w.Asc) (behind e false) (behind e false) (behind_l e false) (behind_l e false)) (behind_l e true))) where
      behind : Expression → Bool → Reader SortKey
      behind e d us = null_ordering_at d us >>= λ n. Ok (record { expression = e; descending = d; nulls_first = n.0 }, n.1)

      behind_l : (e : Expression) (d : Bool) → Local true (behind e d)
      behind_l e d = local_made (null_ordering_at d) (λ n. record { expression = e; descending = d; nulls_first = n }) (null_ordering_l d)

keys_l : (limits : Limits) → Local true (keys_at limits)
unfolding keys_at
keys_l limits = local_choose (is_word w.Order) (λ ts. Ok ([], ts)) (λ a. found_or_unexpected (after (is_word w.By)) a >>= λ b. all_at begins_expression (key_at limits) b) (local_ok [])
    (local_found_or_stuck (is_word w.By) (all_at begins_expression (key_at limits)) (all_l begins_expression (key_at limits) expression_told (key_l limits)))

rows_l : (limits : Limits) → Local true (rows_at limits)
unfolding rows_at
rows_l limits = local_bind (clause_at limits w.Having) (λ h us. keys_at limits us >>= λ ks. Ok ((h, ks.0), ks.1)) (clause_l limits w.Having) (λ h. local_made (keys_at limits) (λ ks. (h, ks)) (keys_l limits))

-- ---- the query

query_l : (limits : Limits) → Local true (query_at limits)
unfolding query_at
query_l limits = local_bind (select_at limits) (λ is us. records_at limits us >>= λ a. rows_at limits a.1 >>= λ b. Ok (tree is a.0 b.0, b.1)) (select_l limits)
    (λ is. local_bind (records_at limits) (λ a us. rows_at limits us >>= λ b. Ok (tree is a b.0, b.1)) (records_l limits) (λ a. local_made (rows_at limits) (λ b. tree is a b) (rows_l limits))) where
      tree : List SelectItem → Option Predicate × Bool × List GroupingElement → Option Predicate × List SortKey → Query
      tree is a b = record { items = is; where_condition = a.0; distinct_sets = a.1; groups = a.2; having_condition = b.0; keys = b.1 }

-- The whole, as a reader that leaves nothing.
ended_at : Query → Reader Query
ended_at q [] = Ok (q, [])
ended_at q (t ∷ ts) = unexpected_at (t ∷ ts)

ended_l : (q : Query) → Local true (ended_at q)
unfolding ended_at
ended_l q [] = local_end (ended_at q) (λ us. Ok (q, us)) refl (local_ok q [])
ended_l q (t ∷ ts) = local_head (ended_at q) unexpected_at t ts (λ us. refl) (local_stuck (t ∷ ts))

pub all_read_at : Limits → Reader Query
all_read_at limits ts = query_at limits ts >>= λ x. ended_at x.0 x.1

pub all_read_l : (limits : Limits) → Local true (all_read_at limits)
unfolding all_read_at
all_read_l limits = local_bind (query_at limits) (λ q us. ended_at q us) (query_l limits) ended_l

-- It stops where the reader of the whole does.
pub all_read_stops : (limits : Limits) (ts : List Token) (e : Stop) → whole_at limits ts ≡ Err e
    → all_read_at limits ts ≡ Err e
unfolding whole_at all_read_at ended_at
all_read_stops limits ts e d = of_query (query_at limits ts) d where
  of_query : (o : Result (Query × List Token) Stop) → (o >>= λ x. at_end x.1 x.0) ≡ Err e
      → (o >>= λ x. ended_at x.0 x.1) ≡ Err e
  of_query (Err n) h = let k : n ≡ e = cc in cc
  of_query (Ok (q, [])) h = absurd cc
  of_query (Ok (q, t ∷ us)) h = let k : halts.unexpected (length (t ∷ us)) ≡ e = cc in cc

pub all_read_ok : (limits : Limits) (ts : List Token) (q : Query) → whole_at limits ts ≡ Ok q
    → all_read_at limits ts ≡ Ok (q, [])
unfolding whole_at all_read_at ended_at
all_read_ok limits ts q d = of_query (query_at limits ts) d where
  of_query : (o : Result (Query × List Token) Stop) → (o >>= λ x. at_end x.1 x.0) ≡ Ok q
      → (o >>= λ x. ended_at x.0 x.1) ≡ Ok (q, [])
  of_query (Err n) h = absurd cc
  of_query (Ok (p, [])) h = let k : p ≡ q = cc in cc
  of_query (Ok (p, t ∷ us)) h = absurd cc

-- A fault stands among the tokens or at their end.
pub left_within : (limits : Limits) (ts : List Token) (e : Stop) → whole_at limits ts ≡ Err e
    → left_of e ≤ length ts
left_within limits ts e d = (all_read_l limits ts).within e (all_read_stops limits ts e d)

-- ---- where no query goes on

-- Two lists of tokens that share the tokens up to a place, and the one there.
same_to : (k : ℕ) (ts rest : List Token) → k < length ts
    → SameFront ts (take (suc k) ts ++ rest) (drop k ts) (drop k (take (suc k) ts ++ rest))
same_to k [] rest h = absurd (omega arith)
same_to zero (t ∷ ts) rest h = SameFront.here
same_to (suc k) (t ∷ ts) rest h = SameFront.token (same_to k ts rest (omega arith))

-- Where a token is not expected, no tokens that begin with those up to it are read.
unread : (limits : Limits) (ts : List Token) (left : ℕ) → whole_at limits ts ≡ Err (halts.unexpected left)
    → length ts - left < length ts → (rest : List Token) (q : Query)
    → whole_at limits (take (suc (length ts - left)) ts ++ rest) ≡ Ok q → ⊥
unread limits ts left e h rest q d =
    let k = length ts - left in
    let stopped = all_read_stops limits ts (halts.unexpected left) e in
    let within : left ≤ length ts = left_within limits ts (halts.unexpected left) e in
    let us = take (suc k) ts ++ rest in
    let behind : left ≡ length (drop k ts) = omega (arith, length-drop k ts) in
    let stops =
    (all_read_l limits ts).stops us (drop k ts) (drop k us) (halts.unexpected left) stopped (same_to k ts rest h) behind in
    let read = all_read_ok limits us q d in
    absurd cc

-- Where a token is not expected, it continues no query, whatever the limits.
pub continues_none_at : (ts : List Token) (left : ℕ) → whole_at language_limits ts ≡ Err (halts.unexpected left)
    → length ts - left < length ts → Begins (take (length ts - left + 1) ts) → ⊥
continues_none_at ts left e h b =
    let wide = both language_limits b.limits in
    let stopped = agrees_unexpected (whole_agrees (wider_one language_limits b.limits) ts) left e in
    let derived =
    subst (λ (n : ℕ). DerivesWithin b.limits (take n ts ++ b.within.rest) b.within.tree) (add-one (length ts - left)) b.within.derived in
    unread wide ts left stopped h b.within.rest b.within.tree (whole_c (wider_other language_limits b.limits) (take (suc (length ts - left)) ts ++ b.within.rest) b.within.tree derived)

-- Tokens of which one is not expected, or the end is not, derive no query, whatever the limits.
pub derives_none_at : (ts : List Token) (left : ℕ) → whole_at language_limits ts ≡ Err (halts.unexpected left)
    → (limits : Limits) (q : Query) → DerivesWithin limits ts q → ⊥
derives_none_at ts left e limits q d =
    let stopped = agrees_unexpected (whole_agrees (wider_one language_limits limits) ts) left e in
    let read = whole_c (wider_other language_limits limits) ts q d in
    absurd cc

-- Two lists of tokens that share the tokens up to a place.
shares_to : (k : ℕ) (ts rest : List Token) → k ≤ length ts → Shares ts (take k ts ++ rest) (drop k ts) rest
shares_to zero ts rest h = Shares.here
shares_to (suc k) [] rest h = absurd (omega arith)
shares_to (suc k) (t ∷ ts) rest h = Shares.token (shares_to k ts rest (omega arith))

-- Where it is too much, the tokens before that begin no query within the limits of the language.
pub begins_none_at : (ts : List Token) (left : ℕ) → whole_at language_limits ts ≡ Err (halts.over_limit left)
    → BeginsWithin language_limits (take (length ts - left) ts) → ⊥
begins_none_at ts left e b =
    let k = length ts - left in
    let stopped = all_read_stops language_limits ts (halts.over_limit left) e in
    let within : left ≤ length ts = left_within language_limits ts (halts.over_limit left) e in
    let us = take k ts ++ b.rest in
    let behind : left ≡ length (drop k ts) = omega (arith, length-drop k ts) in
    let inside : k ≤ length ts = omega arith in
    let fails =
    (all_read_l language_limits ts).over us (drop k ts) b.rest (stopped ∙ ap (λ (n : ℕ). Err (halts.over_limit n)) behind) (shares_to k ts b.rest inside) in
    let fault_is = fails.is in
    let read = all_read_ok language_limits us b.tree (whole_c (wider_same language_limits) us b.tree b.derived) in
    absurd cc
