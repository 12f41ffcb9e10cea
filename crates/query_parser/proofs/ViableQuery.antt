-- The reader of queries has the valid prefix property: what it reads is derived, and the tokens
-- before a fault go on to a query.
use Rattle.std.proofs.Common.{arith, length, ◌<◌, ◌≤◌, ◌-◌, ◌≡◌, ◌⊎◌, inl, inr, ℕ, suc, Bool, true, false, cond, List, [], ◌∷◌, Option, Some, None, Result, Ok, Err, refl, sym, subst}
use Rattle.std.specs.Prelude.{codes}
use Rattle.std.specs.Str.{bytes_eq}
use Rattle.std.proofs.lemmas.Slice.Eq.{bytes_eq-Decides}
use Rattle.semantics.specs.declared.token.Token.{Token}
use Rattle.semantics.specs.declared.token.Token.TheVariants as tokens
use Rattle.semantics.specs.declared.token.Word.{Word}
use Rattle.semantics.specs.declared.token.Word.TheVariants as w
use Rattle.semantics.specs.declared.token.Sign.TheVariants as s
use Rattle.query_lexer.specs.Options.{choose}
use Rattle.semantics.specs.Syntax.{Expression, Predicate, GroupingElement, SelectItem, SortKey, Query}
use Rattle.semantics.specs.Leaves.{Limits, language_limits, Derivation, IsRepeated, IsName, IsOptional}
use Rattle.semantics.specs.Productions.{IsExpression, IsPredicate}
use Rattle.semantics.specs.Grammar.{IsItem, IsGroup, IsGroupBy, IsOrderBy, IsQuery, IsClause}
use Rattle.values.specs.Results.{◌>>=◌}
use Rattle.query_parser.specs.Inside.Stops.{Stop}
use Rattle.query_parser.specs.Inside.Fronts.{is_word, is_sign, after}
use Rattle.query_parser.specs.Inside.Steps.{Reader, unexpected_at, found_or_unexpected, more, name_at}
use Rattle.query_parser.specs.Inside.ExpressionSteps.{begins_expression}
use Rattle.query_parser.specs.Inside.PredicateSteps.{predicate_at, any_front}
use Rattle.query_parser.specs.Inside.GroupSteps.{all_at, group_at}
use Rattle.query_parser.specs.Inside.KeySteps.{keys_at}
use Rattle.query_parser.specs.Inside.QuerySteps.{alias_at, item_at, items_at, from_at, clause_at, set_quantifier_at, elements_at, groups_at, select_at, records_at, rows_at, query_at}
use Rattle.query_parser.proofs.Heads.{after_sign_is}
use Rattle.query_parser.proofs.Viable.{Phrase, Viable, counted, Finds, BeginsPart, TellsPart, AtMost, Listed, viable_ok, viable_stuck, viable_as, viable_same, viable_bind, viable_made, viable_front, viable_more, viable_listed}
use Rattle.query_parser.proofs.ViableLeaves.{limits_of, viable_word, found_or_stuck_word, flag_way, name_v}
use Rattle.query_parser.proofs.ViableExpressions.{expression_part}
use Rattle.query_parser.proofs.ViablePredicates.{predicate_strict_v}
use Rattle.query_parser.proofs.ViableGroups.{All, all_v, group_phrase, group_v}
use Rattle.query_parser.proofs.ViableKeys.{Plain, plain_at, plain_v, keys_v}

-- ---- items

-- An item with this expression and this alias.
abbrev item : Expression → Option (List ℕ) → SelectItem
item e a = record { expression = e; alias = a }

-- The alias of an expression that was read.
abbrev AliasBehind : Limits → Expression → Derivation (Option (List ℕ))
AliasBehind limits e us a ws = (vs : List Token) → Plain limits vs e us → IsItem limits vs (item e a) ws

-- An item of an expression that was read.
abbrev ItemBehind : Limits → Expression → Derivation SelectItem
ItemBehind limits e us i ws = (vs : List Token) → Plain limits vs e us → IsItem limits vs i ws

-- An alias, or none.
alias_v : (wide : Bool) (e : Expression) → Viable true wide (AliasBehind (limits_of wide) e) alias_at
unfolding alias_at
alias_v wide e =
    viable_word w.As (λ ts. Ok (None, ts)) (λ a. found_or_unexpected name_at a >>= λ n. Ok (Some n.0, n.1))
    (viable_ok None (λ ts vs p. IsItem.plain p)) (viable_made (found_or_unexpected name_at) (λ n. Some n) named name_v) where
      named : (us vs : List Token) (n : List ℕ) → IsName us n vs
          → AliasBehind (limits_of wide) e (tokens.Word w.As ∷ us) (Some n) vs
      named _ _ _ IsName.name zs p = IsItem.named p

-- An item.
item_v : (wide : Bool) → Viable true wide (IsItem (limits_of wide)) (item_at language_limits)
unfolding item_at
item_v wide =
    viable_bind (ItemBehind (limits_of wide)) plain_at (λ e us. alias_at us >>= λ a. Ok (item e a.0, a.1))
    (λ us vs ws e i p q. q us p)
    (λ e. record { tokens = []; value = item e None; derived = λ other vs p. IsItem.plain p }) (plain_v wide)
    (λ e. viable_made alias_at (λ a. item e a) (λ us vs a q. q) (alias_v wide e))

-- A name is an item.
abbrev item_phrase : {limits : Limits} → Phrase (IsItem limits)
item_phrase = record {
  tokens = tokens.Name (codes "a") ∷ [];
  value = item (Expression.name (codes "a")) None;
  derived = λ other. IsItem.plain IsExpression.name;
}

-- The token in front tells whether an item begins.
item_part : (wide : Bool) → TellsPart (IsItem (limits_of wide)) begins_expression
item_part wide = record { at_end = tells.at_end; at_token = at_token } where
  tells : TellsPart (Plain (limits_of wide)) begins_expression
  tells = expression_part wide (IsPredicate (limits_of wide) (limits_of wide).levels)

  at_token : (t : Token) (us : List Token) → begins_expression (t ∷ us) ≡ true → BeginsPart (IsItem (limits_of wide)) t
  at_token t us e = let p = tells.at_token t us e in
      record {
        counts = p.counts;
        behind = p.behind;
        value = item p.value None;
        derived = λ other. IsItem.plain (p.derived other);
      }

-- The items behind the first.
abbrev Others : Limits → Derivation (List SelectItem)
Others limits = AtMost (tokens.Sign s.Comma) (IsItem limits) (limits.items - 1)

-- The items of SELECT.
abbrev Items : Limits → Derivation (List SelectItem)
Items limits = Listed (IsItem limits) (Others limits)

no_others : {limits : Limits} (ts : List Token) → Others limits ts [] ts
no_others ts = (IsRepeated.none, omega arith)

-- What reads the items behind the first.
abbrev others_at : Reader (List SelectItem)
others_at ts = more (is_sign s.Comma) begins_expression (item_at language_limits) 63 ts

others_v : (wide : Bool) → Viable true wide (Others (limits_of wide)) others_at
others_v true =
    viable_more (is_sign s.Comma) (tokens.Sign s.Comma) begins_expression (item_at language_limits) (after_sign_is s.Comma)
    refl (item_part true) item_phrase (item_v true) 63 64 (omega arith) (λ i. omega arith)
others_v false =
    viable_more (is_sign s.Comma) (tokens.Sign s.Comma) begins_expression (item_at language_limits) (after_sign_is s.Comma)
    refl (item_part false) item_phrase (item_v false) 63 63 (omega arith) (λ i. absurd cc)

items_v : (wide : Bool) → Viable true wide (Items (limits_of wide)) (items_at language_limits)
unfolding items_at
items_v wide = viable_listed (item_at language_limits) others_at no_others (item_v wide) (others_v wide)

-- ---- FROM

-- The name `lines` in front.
lines_at : List Token → Option (Unit {0} × List Token)
lines_at [] = None
lines_at (tokens.Name n ∷ ts) = cond (bytes_eq n (codes "lines")) (Some (tt, ts)) None
lines_at (t ∷ ts) = None

-- The name `lines`.
data IsLines : List Token → Unit {0} → List Token → Type 0 where
  lines : {x : Unit {0}} {r : List Token} → IsLines (tokens.Name (codes "lines") ∷ r) x r

-- What stands behind a name, where this test of it holds.
abbrev where_named : Bool → List Token → Option (Unit {0} × List Token)
where_named b us = cond b (Some (tt, us)) None

-- Either `lines` is found at a token in front, or it is not.
abbrev Found : Token → (List Token → Option (Unit {0} × List Token)) → Type 0
Found t h = ((us : List Token) → h us ≡ None)
    ⊎ ((x : Unit {0}) × ((us : List Token) → h us ≡ Some (x, us)) × ((us : List Token) → IsLines (t ∷ us) x us)
    × (counted t ≡ true))

lines_finds : Finds IsLines lines_at
unfolding lines_at
lines_finds = record { at_end = refl; at_token = at_token } where
  of_lines : (n : List ℕ) (us : List Token) → n ≡ codes "lines" → IsLines (tokens.Name n ∷ us) tt us
  of_lines n us i = subst (λ (m : List ℕ). IsLines (tokens.Name m ∷ us) tt us) (sym i) IsLines.lines

  of_test : (n : List ℕ) (b : Bool) → bytes_eq n (codes "lines") ≡ b → Found (tokens.Name n) (where_named b)
  of_test n true i = inr (tt, λ us. refl, λ us. of_lines n us ((bytes_eq-Decides n (codes "lines")).0 i), refl)
  of_test n false i = inl (λ us. refl)

  at_token : (t : Token) → Found t (λ us. lines_at (t ∷ us))
  at_token (tokens.Name n) = of_test n (bytes_eq n (codes "lines")) refl
  at_token t = inl (λ us. refl)

-- A value, with nothing taken.
abbrev beside : {A : Type 0} → A → Reader A
beside x ts = Ok (x, ts)

-- FROM and `lines`, and this value.
abbrev from_beside : {A : Type 0} → A → Reader A
from_beside x ts = from_at ts >>= λ rest. beside x rest

-- The same behind FROM, where its name is found, and where it is read.
abbrev lines_beside : {A : Type 0} → A → Reader A
lines_beside x a = choose (lines_at a) (unexpected_at a) (λ l. beside x l.1)

abbrev named_lines : List Token → Result (List Token) Stop
named_lines a = found_or_unexpected name_at a >>= λ n. cond (bytes_eq n.0 (codes "lines")) (Ok n.1) (unexpected_at a)

from_way : {A : Type 0} (x : A) (ts : List Token)
    → from_beside x ts ≡ (found_or_unexpected (after (is_word w.From)) ts >>= λ a. lines_beside x a)
unfolding from_at lines_at name_at
from_way {A} x ts = of_from (found_or_unexpected (after (is_word w.From)) ts) where
  of_test : (b : Bool) (a us : List Token) → (cond b (Ok us) (unexpected_at a) >>= λ rest. beside x rest)
      ≡ choose (where_named b us) (unexpected_at a) (λ l. beside x l.1)
  of_test true a us = refl
  of_test false a us = refl

  of_name : (a : List Token) → (named_lines a >>= λ rest. beside x rest) ≡ lines_beside x a
  of_name [] = refl
  of_name (tokens.Name n ∷ us) = of_test (bytes_eq n (codes "lines")) (tokens.Name n ∷ us) us
  of_name (t ∷ us) = refl

  of_from : (o : Result (List Token) Stop)
      → ((o >>= λ a. named_lines a) >>= λ rest. beside x rest) ≡ (o >>= λ a. lines_beside x a)
  of_from (Ok a) = of_name a
  of_from (Err e) = refl

-- Items that end before FROM and `lines`.
abbrev ItemsFrom : Limits → Derivation (List SelectItem)
ItemsFrom limits ts is rest = Items limits ts is (tokens.Word w.From ∷ tokens.Name (codes "lines") ∷ rest)

-- What ends the items that were read.
abbrev FromBehind : Limits → List SelectItem → Derivation (List SelectItem)
FromBehind limits is us js ws = (vs : List Token) → Items limits vs is us → ItemsFrom limits vs js ws

-- The same behind FROM, and behind `lines` too.
abbrev NameBehind : Limits → List SelectItem → Derivation (List SelectItem)
NameBehind limits is us js ws = FromBehind limits is (tokens.Word w.From ∷ us) js ws

abbrev LinesBehind : Limits → List SelectItem → Derivation (List SelectItem)
LinesBehind limits is us js ws = NameBehind limits is (tokens.Name (codes "lines") ∷ us) js ws

from_v : (wide : Bool) (is : List SelectItem) → Viable true wide (FromBehind (limits_of wide) is) (from_beside is)
from_v wide is =
    viable_same (from_beside is) (λ ts. found_or_unexpected (after (is_word w.From)) ts >>= λ a. lines_beside is a) (from_way is)
    (found_or_stuck_word w.From (lines_beside is) lines
    (viable_front {Q = λ _. LinesBehind (limits_of wide) is} lines_at lines_finds joined unexpected_at (λ _. beside is)
    (viable_stuck lines) (λ _. viable_ok is (λ ts vs p. p)))) where
      lines : Phrase (NameBehind (limits_of wide) is)
      lines = record { tokens = tokens.Name (codes "lines") ∷ []; value = is; derived = λ other vs p. p }

      joined : (us vs ws : List Token) (x : Unit {0}) (js : List SelectItem) → IsLines us x vs
          → LinesBehind (limits_of wide) is vs js ws → NameBehind (limits_of wide) is us js ws
      joined _ _ ws x js IsLines.lines q = q

-- SELECT and its items, up to what stands behind FROM.
data IsSelect (limits : Limits) : List Token → List SelectItem → List Token → Type 0 where
  select : {ts rest : List Token} {is : List SelectItem} → ItemsFrom limits ts is rest
      → IsSelect limits (tokens.Word w.Select ∷ ts) is rest

-- The items behind SELECT, and FROM.
abbrev items_from_at : Reader (List SelectItem)
items_from_at ts = items_at language_limits ts >>= λ is. from_at is.1 >>= λ rest. Ok (is.0, rest)

items_from_v : (wide : Bool) → Viable true wide (ItemsFrom (limits_of wide)) items_from_at
items_from_v wide =
    viable_bind (FromBehind (limits_of wide)) (items_at language_limits) from_beside (λ us vs ws is js p q. q us p) from
    (items_v wide) (from_v wide) where
      from : (is : List SelectItem) → Phrase (FromBehind (limits_of wide) is)
      from is = record {
        tokens = tokens.Word w.From ∷ tokens.Name (codes "lines") ∷ [];
        value = is;
        derived = λ other vs p. p;
      }

select_v : (wide : Bool) → Viable true wide (IsSelect (limits_of wide)) (select_at language_limits)
unfolding select_at
select_v wide =
    found_or_stuck_word w.Select items_from_at one (viable_as (λ us ws is q. IsSelect.select q) (items_from_v wide)) where
      one : Phrase (λ us is ws. IsSelect (limits_of wide) (tokens.Word w.Select ∷ us) is ws)
      one = record {
        tokens = tokens.Name (codes "a") ∷ tokens.Word w.From ∷ tokens.Name (codes "lines") ∷ [];
        value = item (Expression.name (codes "a")) None ∷ [];
        derived = λ other. IsSelect.select (Listed.parts (IsItem.plain IsExpression.name) (no_others _));
      }

-- ---- the clauses

-- What reads the predicate of a clause.
abbrev condition_at : Reader Predicate
condition_at ts = predicate_at language_limits (suc language_limits.levels) ts

-- The predicate of a clause.
abbrev Condition : Limits → Derivation Predicate
Condition limits = IsPredicate limits (suc limits.levels)

condition_v : (wide : Bool) → Viable true wide (Condition (limits_of wide)) condition_at
condition_v true = predicate_strict_v true 64
condition_v false = predicate_strict_v false 64

-- A clause of one predicate behind its word, or none.
clause_v : (wide : Bool) (word : Word) (P : Derivation (Option Predicate)) → ((r : List Token) → P r None r)
    → ((ts r : List Token) (p : Predicate) → Condition (limits_of wide) ts p r
    → P (tokens.Word word ∷ ts) (Some p) r) → Viable true wide P (clause_at language_limits word)
unfolding clause_at
clause_v wide word P absent written =
    viable_word word (λ ts. Ok (None, ts)) (λ a. condition_at a >>= λ p. Ok (Some p.0, p.1)) (viable_ok None absent)
    (viable_made condition_at (λ p. Some p) written (condition_v wide))

where_v : (wide : Bool) → Viable true wide (IsClause w.Where (limits_of wide)) (clause_at language_limits w.Where)
where_v wide = clause_v wide w.Where (IsClause w.Where (limits_of wide)) (λ r. IsClause.none) (λ ts r p q. IsClause.condition q)

having_v : (wide : Bool) → Viable true wide (IsClause w.Having (limits_of wide)) (clause_at language_limits w.Having)
having_v wide =
    clause_v wide w.Having (IsClause w.Having (limits_of wide)) (λ r. IsClause.none) (λ ts r p q. IsClause.condition q)

-- GROUP BY, with whether DISTINCT is written beside its elements.
abbrev Groups : Limits → Derivation (Bool × List GroupingElement)
Groups limits ts x rest = IsGroupBy limits ts x.0 x.1 rest

-- What stands behind GROUP BY.
abbrev Elements : Limits → Derivation (Bool × List GroupingElement)
Elements limits ts x rest = Groups limits (tokens.Word w.Group ∷ tokens.Word w.By ∷ ts) x rest

-- The elements, with DISTINCT or without.
abbrev elements_behind : Bool → Reader (Bool × List GroupingElement)
elements_behind d us = all_at any_front (group_at language_limits.sets) us >>= λ gs. Ok ((d, gs.0), gs.1)

group_by_v : (wide : Bool) → Viable true wide (IsGroup (limits_of wide).sets) (group_at language_limits.sets)
group_by_v true = group_v true 16
group_by_v false = group_v false 16

elements_behind_v : (wide d : Bool) (front : List Token → List Token)
    → ((ts : List Token) → IsOptional w.Distinct (front ts) d ts)
    → Viable true wide (λ us. Elements (limits_of wide) (front us)) (elements_behind d)
elements_behind_v wide d front quantifier =
    viable_made (all_at any_front (group_at language_limits.sets)) (λ gs. (d, gs)) made
    (all_v any_front (group_at language_limits.sets) (group_by_v wide)) where
      made : (us vs : List Token) (gs : List GroupingElement) → All (IsGroup (limits_of wide).sets) us gs vs
          → Elements (limits_of wide) (front us) (d, gs) vs
      made us _ _ (Listed.parts first others) = IsGroupBy.groups (quantifier us) first others

elements_v : (wide : Bool) → Viable true wide (Elements (limits_of wide)) (elements_at language_limits)
unfolding elements_at set_quantifier_at
elements_v wide =
    viable_same (elements_at language_limits)
    (λ ts. choose (after (is_word w.Distinct) ts) (elements_behind false ts) (elements_behind true))
    (flag_way w.Distinct elements_behind) (viable_word w.Distinct (elements_behind false) (elements_behind true)
    (elements_behind_v wide false (λ ts. ts) (λ ts. IsOptional.none))
    (elements_behind_v wide true (λ ts. tokens.Word w.Distinct ∷ ts) (λ ts. IsOptional.written)))

-- BY and the elements.
abbrev by_at : Reader (Bool × List GroupingElement)
by_at ts = found_or_unexpected (after (is_word w.By)) ts >>= λ b. elements_at language_limits b

groups_v : (wide : Bool) → Viable true wide (Groups (limits_of wide)) (groups_at language_limits)
unfolding groups_at
groups_v wide =
    viable_word w.Group (λ ts. Ok ((false, []), ts)) by_at (viable_ok (false, []) (λ ts. IsGroupBy.none))
    (found_or_stuck_word w.By (elements_at language_limits) one (elements_v wide)) where
      group : Phrase (IsGroup (limits_of wide).sets)
      group = group_phrase (limits_of wide).sets

      one : Phrase (Elements (limits_of wide))
      one = record {
        tokens = group.tokens;
        value = (false, group.value ∷ []);
        derived = λ other. IsGroupBy.groups IsOptional.none (group.derived other) IsRepeated.none;
      }

-- WHERE and GROUP BY, as they are read.
abbrev RecordsForm : Type 0
RecordsForm = Option Predicate × Bool × List GroupingElement

-- WHERE and GROUP BY, one behind the other.
data IsRecords (limits : Limits) : List Token → RecordsForm → List Token → Type 0 where
  records : {ts mid rest : List Token} {p : Option Predicate} {d : Bool} {gs : List GroupingElement}
      → IsClause w.Where limits ts p mid → IsGroupBy limits mid d gs rest → IsRecords limits ts (p, d, gs) rest

-- GROUP BY behind a WHERE that was read.
abbrev GroupsBehind : Limits → Option Predicate → Derivation RecordsForm
GroupsBehind limits p us x ws = (vs : List Token) → IsClause w.Where limits vs p us → IsRecords limits vs x ws

records_v : (wide : Bool) → Viable true wide (IsRecords (limits_of wide)) (records_at language_limits)
unfolding records_at
records_v wide =
    viable_bind (GroupsBehind (limits_of wide)) (clause_at language_limits w.Where)
    (λ p us. groups_at language_limits us >>= λ gs. Ok ((p, gs.0.0, gs.0.1), gs.1)) (λ us vs ws p x q r. r us q) none
    (where_v wide) (λ p. viable_made (groups_at language_limits) (λ gs. (p, gs.0, gs.1))
    (λ us vs gs q ws r. IsRecords.records r q) (groups_v wide)) where
      none : (p : Option Predicate) → Phrase (GroupsBehind (limits_of wide) p)
      none p = record {
        tokens = [];
        value = (p, false, []);
        derived = λ other vs q. IsRecords.records q IsGroupBy.none;
      }

-- HAVING and ORDER BY, as they are read.
abbrev RowsForm : Type 0
RowsForm = Option Predicate × List SortKey

-- HAVING and ORDER BY, one behind the other.
data IsRows (limits : Limits) : List Token → RowsForm → List Token → Type 0 where
  rows : {ts mid rest : List Token} {h : Option Predicate} {ks : List SortKey}
      → IsClause w.Having limits ts h mid → IsOrderBy limits mid ks rest → IsRows limits ts (h, ks) rest

-- ORDER BY behind a HAVING that was read.
abbrev KeysBehind : Limits → Option Predicate → Derivation RowsForm
KeysBehind limits h us x ws = (vs : List Token) → IsClause w.Having limits vs h us → IsRows limits vs x ws

rows_v : (wide : Bool) → Viable true wide (IsRows (limits_of wide)) (rows_at language_limits)
unfolding rows_at
rows_v wide =
    viable_bind (KeysBehind (limits_of wide)) (clause_at language_limits w.Having)
    (λ h us. keys_at language_limits us >>= λ ks. Ok ((h, ks.0), ks.1)) (λ us vs ws h x q r. r us q) none (having_v wide)
    (λ h. viable_made (keys_at language_limits) (λ ks. (h, ks)) (λ us vs ks q ws r. IsRows.rows r q) (keys_v wide)) where
      none : (h : Option Predicate) → Phrase (KeysBehind (limits_of wide) h)
      none h = record { tokens = []; value = (h, []); derived = λ other vs q. IsRows.rows q IsOrderBy.none }

-- ---- the query

-- A query of these clauses.
abbrev tree : List SelectItem → RecordsForm → RowsForm → Query
tree is a b =
    record { items = is; where_condition = a.0; distinct_sets = a.1; groups = a.2; having_condition = b.0; keys = b.1 }

-- So many others are fewer than the limit.
few : (wide : Bool) (n : ℕ) → n ≤ (limits_of wide).items - 1 → n < (limits_of wide).items
few true n h = omega (arith, h)
few false n h = omega (arith, h)

-- What the parts of a query derive, derives it.
query_of : (wide : Bool) {ts u v rest : List Token} {is : List SelectItem} {a : RecordsForm} {b : RowsForm}
    → IsSelect (limits_of wide) ts is u → IsRecords (limits_of wide) u a v → IsRows (limits_of wide) v b rest
    → IsQuery (limits_of wide) ts (tree is a b) rest
query_of wide (IsSelect.select (Listed.parts {xs = is} first others)) (IsRecords.records p gs) (IsRows.rows h ks) =
    IsQuery.query first others.0 (few wide (length is) others.1) p gs h ks

-- A query of the items that were read.
abbrev SelectBehind : Limits → List SelectItem → Derivation Query
SelectBehind limits is us q ws = (vs : List Token) → IsSelect limits vs is us → IsQuery limits vs q ws

-- A query of the items, WHERE and GROUP BY that were read.
abbrev RecordsBehind : Limits → List SelectItem → RecordsForm → Derivation Query
RecordsBehind limits is a us q ws = (vs : List Token) → IsRecords limits vs a us → SelectBehind limits is vs q ws

-- What is read behind the items, and behind WHERE and GROUP BY too.
abbrev rows_behind : List SelectItem → RecordsForm → Reader Query
rows_behind is a us = rows_at language_limits us >>= λ b. Ok (tree is a b.0, b.1)

abbrev records_behind : List SelectItem → Reader Query
records_behind is us = records_at language_limits us >>= λ a. rows_behind is a.0 a.1

rows_behind_v : (wide : Bool) (is : List SelectItem) (a : RecordsForm)
    → Viable true wide (RecordsBehind (limits_of wide) is a) (rows_behind is a)
rows_behind_v wide is a =
    viable_made (rows_at language_limits) (λ b. tree is a b) (λ us vs b q ws p ts i. query_of wide i p q) (rows_v wide)

records_behind_v : (wide : Bool) (is : List SelectItem)
    → Viable true wide (SelectBehind (limits_of wide) is) (records_behind is)
records_behind_v wide is =
    viable_bind (RecordsBehind (limits_of wide) is) (records_at language_limits) (rows_behind is)
    (λ us vs ws a q p r ts i. r us p ts i) none (records_v wide) (rows_behind_v wide is) where
      none : (a : RecordsForm) → Phrase (RecordsBehind (limits_of wide) is a)
      none a = record {
        tokens = [];
        value = tree is a (None, []);
        derived = λ other vs p ts i. query_of wide i p (IsRows.rows IsClause.none IsOrderBy.none);
      }

-- A query.
pub query_v : (wide : Bool) → Viable true wide (IsQuery (limits_of wide)) (query_at language_limits)
unfolding query_at
query_v wide =
    viable_bind (SelectBehind (limits_of wide)) (select_at language_limits) records_behind (λ us vs ws is q p r. r us p) none
    (select_v wide) (records_behind_v wide) where
      no_records : (ts : List Token) → IsRecords (limits_of wide) ts (None, false, []) ts
      no_records ts = IsRecords.records IsClause.none IsGroupBy.none

      none : (is : List SelectItem) → Phrase (SelectBehind (limits_of wide) is)
      none is = record {
        tokens = [];
        value = tree is (None, false, []) (None, []);
        derived = λ other vs p. query_of wide p (no_records other) (IsRows.rows IsClause.none IsOrderBy.none);
      }
