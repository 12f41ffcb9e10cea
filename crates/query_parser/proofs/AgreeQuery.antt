-- The readers of queries within narrow and within wider limits agree.
use Rattle.std.proofs.Common.{arith, length, ◌≤◌, ◌-◌, ◌≡◌, ℕ, zero, suc, Bool, false, List, refl}
use Rattle.semantics.specs.declared.token.Token.{Token}
use Rattle.semantics.specs.declared.token.Word.{Word}
use Rattle.semantics.specs.declared.token.Word.TheVariants as w
use Rattle.semantics.specs.declared.token.Sign.TheVariants as s
use Rattle.semantics.specs.Syntax.{GroupingElement}
use Rattle.semantics.specs.Leaves.{Limits}
use Rattle.query_parser.specs.Inside.Fronts.{is_word, is_sign, after}
use Rattle.query_parser.specs.Inside.Steps.{Reader, unexpected_at, found_or_unexpected}
use Rattle.query_parser.specs.Inside.ExpressionSteps.{begins_expression}
use Rattle.query_parser.specs.Inside.PredicateSteps.{inside_of, any_front}
use Rattle.query_parser.specs.Inside.GroupSteps.{all_at, enclosed_at, element_at, sets_at, group_at}
use Rattle.query_parser.specs.Inside.KeySteps.{key_at, keys_at}
use Rattle.query_parser.specs.Inside.QuerySteps.{item_at, items_at, clause_at, set_quantifier_at, elements_at, groups_at, select_at, records_at, rows_at, query_at, whole_at}
use Rattle.query_parser.proofs.Agree.{Wider, Agrees, agrees_bind, agrees_choose, agrees_all, agrees_listed}
use Rattle.query_parser.proofs.AgreePredicates.{predicate_agrees, inside_agrees, expression_stuck}

-- ---- lists

all_agree : {A : Type 0} (begins : List Token → Bool) (part wide_part : Reader A)
    → ((ts : List Token) → Agrees (part ts) (wide_part ts)) → (ts : List Token)
    → Agrees (all_at begins part ts) (all_at begins wide_part ts)
all_agree begins part wide_part h ts =
    agrees_bind (h ts) (λ first. agrees_bind (agrees_all (is_sign s.Comma) begins part wide_part h (length first.1) first.1) (λ xs. Agrees.same))

enclosed_agree : {A : Type 0} (begins : List Token → Bool) (part wide_part : Reader A)
    → ((ts : List Token) → Agrees (part ts) (wide_part ts)) → (ts : List Token)
    → Agrees (enclosed_at begins part ts) (enclosed_at begins wide_part ts)
enclosed_agree begins part wide_part h ts =
    agrees_bind {o = found_or_unexpected (after (is_sign s.Open)) ts} Agrees.same (λ a. agrees_bind (all_agree begins part wide_part h a) (λ all. Agrees.same))

-- ---- groups

element_agrees : (nested wide_nested : Reader GroupingElement) → ((ts : List Token) → Agrees (nested ts) (wide_nested ts))
    → (ts : List Token) → Agrees (element_at nested ts) (element_at wide_nested ts)
unfolding element_at
element_agrees nested wide_nested h ts = agrees_choose (after (is_word w.Rollup) ts)
    (agrees_choose (after (is_word w.Cube) ts)
    (agrees_choose (after (is_word w.Grouping) ts) Agrees.same (λ a. h a))
    (λ a. Agrees.same))
    (λ a. Agrees.same)

sets_agree : (n m : ℕ) → n ≤ m → (ts : List Token) → Agrees (sets_at n ts) (sets_at m ts)
unfolding sets_at
sets_agree zero m few ts = Agrees.over
sets_agree (suc n) zero few ts = absurd (omega arith)
sets_agree (suc n) (suc m) few ts =
    let fewer : n ≤ m = omega arith in
    agrees_bind {o = found_or_unexpected (after (is_word w.Sets)) ts} Agrees.same (λ a.
    agrees_bind (enclosed_agree any_front (element_at (sets_at n)) (element_at (sets_at m)) (element_agrees (sets_at n) (sets_at m) (λ us. sets_agree n m fewer us)) a) (λ gs. Agrees.same))

group_agrees : (n m : ℕ) → n ≤ m → (ts : List Token) → Agrees (group_at n ts) (group_at m ts)
group_agrees n m few ts = element_agrees (sets_at n) (sets_at m) (sets_agree n m few) ts

-- Where no expression begins, no item does.
item_stuck : (limits : Limits) (ts : List Token) → begins_expression ts ≡ false → item_at limits ts ≡ unexpected_at ts
unfolding item_at
item_stuck limits ts e = rw (expression_stuck (inside_of limits limits.levels) ts e) refl

module _ (narrow wide : Limits) (wider : Wider narrow wide) where
  -- ---- items and clauses

  item_agrees : (ts : List Token) → Agrees (item_at narrow ts) (item_at wide ts)
  unfolding item_at
  item_agrees ts =
      agrees_bind (inside_agrees narrow wide wider narrow.levels wide.levels wider.levels ts) (λ e. Agrees.same)

  items_agree : (ts : List Token) → Agrees (items_at narrow ts) (items_at wide ts)
  unfolding items_at
  items_agree ts =
      let few : narrow.items - 1 ≤ wide.items - 1 = omega (arith, wider.items) in
      agrees_listed begins_expression (item_at narrow) (item_at wide) (narrow.items - 1) (wide.items - 1) few item_agrees (item_stuck wide) ts

  clause_agrees : (word : Word) (ts : List Token) → Agrees (clause_at narrow word ts) (clause_at wide word ts)
  unfolding clause_at
  clause_agrees word ts =
      let few : suc narrow.levels ≤ suc wide.levels = omega (arith, wider.levels) in
      agrees_choose (after (is_word word) ts) Agrees.same (λ a. agrees_bind (predicate_agrees narrow wide wider (suc narrow.levels) (suc wide.levels) few a) (λ p. Agrees.same))

  elements_agree : (ts : List Token) → Agrees (elements_at narrow ts) (elements_at wide ts)
  unfolding elements_at
  elements_agree ts =
      agrees_bind (all_agree any_front (group_at narrow.sets) (group_at wide.sets) (group_agrees narrow.sets wide.sets wider.sets) (set_quantifier_at ts).1) (λ gs. Agrees.same)

  groups_agree : (ts : List Token) → Agrees (groups_at narrow ts) (groups_at wide ts)
  unfolding groups_at
  groups_agree ts =
      agrees_choose (after (is_word w.Group) ts) Agrees.same (λ a. agrees_bind {o = found_or_unexpected (after (is_word w.By)) a} Agrees.same (λ b. elements_agree b))

  key_agrees : (ts : List Token) → Agrees (key_at narrow ts) (key_at wide ts)
  unfolding key_at
  key_agrees ts =
      agrees_bind (inside_agrees narrow wide wider narrow.levels wide.levels wider.levels ts) (λ e. Agrees.same)

  keys_agree : (ts : List Token) → Agrees (keys_at narrow ts) (keys_at wide ts)
  unfolding keys_at
  keys_agree ts =
      agrees_choose (after (is_word w.Order) ts) Agrees.same (λ a. agrees_bind {o = found_or_unexpected (after (is_word w.By)) a} Agrees.same (λ b. all_agree begins_expression (key_at narrow) (key_at wide) key_agrees b))

  -- ---- queries

  select_agrees : (ts : List Token) → Agrees (select_at narrow ts) (select_at wide ts)
  unfolding select_at
  select_agrees ts =
      agrees_bind {o = found_or_unexpected (after (is_word w.Select)) ts} Agrees.same (λ a. agrees_bind (items_agree a) (λ is. Agrees.same))

  records_agree : (ts : List Token) → Agrees (records_at narrow ts) (records_at wide ts)
  unfolding records_at
  records_agree ts = agrees_bind (clause_agrees w.Where ts) (λ p. agrees_bind (groups_agree p.1) (λ gs. Agrees.same))

  rows_agree : (ts : List Token) → Agrees (rows_at narrow ts) (rows_at wide ts)
  unfolding rows_at
  rows_agree ts = agrees_bind (clause_agrees w.Having ts) (λ h. agrees_bind (keys_agree h.1) (λ ks. Agrees.same))

  query_agrees : (ts : List Token) → Agrees (query_at narrow ts) (query_at wide ts)
  unfolding query_at
  query_agrees ts =
      agrees_bind (select_agrees ts) (λ is. agrees_bind (records_agree is.1) (λ a. agrees_bind (rows_agree a.1) (λ b. Agrees.same)))

-- What is read of all tokens within narrow limits, and where a token is not expected, is so within
-- wider ones.
pub whole_agrees : {narrow wide : Limits} → Wider narrow wide → (ts : List Token)
    → Agrees (whole_at narrow ts) (whole_at wide ts)
unfolding whole_at
whole_agrees {narrow} {wide} wider ts = agrees_bind (query_agrees narrow wide wider ts) (λ x. Agrees.same)
