-- Leaves that derive from tokens are read.
use Rattle.std.proofs.Common.{arith, ◌-◌, length, ◌<◌, ◌≡◌, ℕ, Bool, List, ◌∷◌, Some, None, Ok, refl}
use Rattle.semantics.specs.declared.comparison.Op.{Op}
use Rattle.semantics.specs.declared.truth.Truth.{Truth}
use Rattle.semantics.specs.declared.token.Token.{Token}
use Rattle.semantics.specs.declared.token.Token.TheVariants as tokens
use Rattle.semantics.specs.declared.token.Word.TheVariants as w
use Rattle.semantics.specs.declared.token.Sign.TheVariants as s
use Rattle.semantics.specs.declared.aggregate.Aggregate.{Aggregate}
use Rattle.semantics.specs.declared.literal.Literal.{Literal}
use Rattle.query_parser.specs.Inside.Fronts.{is_word, after}
use Rattle.semantics.specs.Leaves.{IsRepeated, IsName, IsAggregate, IsLiteral, IsOp, IsTruthValue, IsOptional}
use Rattle.query_parser.specs.Inside.Steps.{found_or_unexpected, name_at, begins_name}
use Rattle.query_parser.specs.Inside.LeafSteps.{closed_name_at, argument_at, counted_name_at, count_at, aggregate_at, arguments_at, literal_at, begins_literal, literals_at, op_at, truth_at, mark_at}
use Rattle.query_parser.proofs.CompleteLists.{Shrinks, bracketed_c}

-- ---- names and set functions

pub name_c : (ts r : List Token) (n : List ℕ) → IsName ts n r → found_or_unexpected name_at ts ≡ Ok (n, r)
unfolding name_at
name_c _ _ _ IsName.name = refl

pub arguments_c : {most : ℕ} {n : List ℕ} {mid r : List Token} {ns : List (List ℕ)} → IsRepeated (tokens.Sign s.Comma) IsName mid ns (tokens.Sign s.Close ∷ r) → length ns < most
    → arguments_at most (tokens.Sign s.Open ∷ tokens.Name n ∷ mid) ≡ Ok (n ∷ ns, r)
unfolding arguments_at
arguments_c {most} {n} {mid} b few = bracketed_c begins_name IsName (found_or_unexpected name_at) name_c (most - 1) (IsName.name {n = n} {r = mid}) b (omega arith)

pub aggregate_c : {ts r : List Token} {f : Aggregate} → IsAggregate ts f r → aggregate_at ts ≡ Ok (f, r)
unfolding aggregate_at count_at counted_name_at argument_at closed_name_at name_at
aggregate_c IsAggregate.count_rows = refl
aggregate_c IsAggregate.count = refl
aggregate_c IsAggregate.count_distinct = refl
aggregate_c IsAggregate.sum = refl
aggregate_c IsAggregate.min = refl
aggregate_c IsAggregate.max = refl
aggregate_c IsAggregate.avg = refl

-- No set function begins with a name or with GROUPING.
pub record BeginsFunction (ts : List Token) : Type 0 where
  pub no_name : name_at ts ≡ None
  pub no_grouping : after (is_word w.Grouping) ts ≡ None

pub function_begins : {ts r : List Token} {f : Aggregate} → IsAggregate ts f r → BeginsFunction ts
unfolding name_at
function_begins IsAggregate.count_rows = record { no_name = refl; no_grouping = refl }
function_begins IsAggregate.count = record { no_name = refl; no_grouping = refl }
function_begins IsAggregate.count_distinct = record { no_name = refl; no_grouping = refl }
function_begins IsAggregate.sum = record { no_name = refl; no_grouping = refl }
function_begins IsAggregate.min = record { no_name = refl; no_grouping = refl }
function_begins IsAggregate.max = record { no_name = refl; no_grouping = refl }
function_begins IsAggregate.avg = record { no_name = refl; no_grouping = refl }

pub name_short : Shrinks IsName
name_short _ _ _ IsName.name = omega arith

pub aggregate_short : Shrinks IsAggregate
aggregate_short _ _ _ IsAggregate.count_rows = omega arith
aggregate_short _ _ _ IsAggregate.count = omega arith
aggregate_short _ _ _ IsAggregate.count_distinct = omega arith
aggregate_short _ _ _ IsAggregate.sum = omega arith
aggregate_short _ _ _ IsAggregate.min = omega arith
aggregate_short _ _ _ IsAggregate.max = omega arith
aggregate_short _ _ _ IsAggregate.avg = omega arith

-- ---- literals, operators and truth values

pub literal_c : (ts r : List Token) (a : Literal) → IsLiteral ts a r → literal_at ts ≡ Some (a, r)
unfolding literal_at
literal_c _ _ _ IsLiteral.integer = refl
literal_c _ _ _ IsLiteral.text = refl
literal_c _ _ _ IsLiteral.yes = refl
literal_c _ _ _ IsLiteral.no = refl

-- The literals of a list.
listed_literal_c : (ts r : List Token) (a : Literal) → IsLiteral ts a r → found_or_unexpected literal_at ts ≡ Ok (a, r)
listed_literal_c ts r a p = rw (literal_c ts r a p) refl

pub literals_c : {most : ℕ} {ts mid r : List Token} {a : Literal} {ls : List Literal} → IsLiteral ts a mid → IsRepeated (tokens.Sign s.Comma) IsLiteral mid ls (tokens.Sign s.Close ∷ r) → length ls < most
    → literals_at most (tokens.Sign s.Open ∷ ts) ≡ Ok (a ∷ ls, r)
unfolding literals_at
literals_c {most} a b few = bracketed_c begins_literal IsLiteral (found_or_unexpected literal_at) listed_literal_c (most - 1) a b (omega arith)

pub op_c : {ts r : List Token} {o : Op} → IsOp ts o r → op_at ts ≡ Some (o, r)
unfolding op_at
op_c IsOp.eq = refl
op_c IsOp.ne = refl
op_c IsOp.lt = refl
op_c IsOp.le = refl
op_c IsOp.gt = refl
op_c IsOp.ge = refl

pub op_no_is : {ts r : List Token} {o : Op} → IsOp ts o r → after (is_word w.Is) ts ≡ None
op_no_is IsOp.eq = refl
op_no_is IsOp.ne = refl
op_no_is IsOp.lt = refl
op_no_is IsOp.le = refl
op_no_is IsOp.gt = refl
op_no_is IsOp.ge = refl

pub truth_c : {ts r : List Token} {t : Truth} → IsTruthValue ts t r → truth_at ts ≡ Ok (t, r)
unfolding truth_at
truth_c IsTruthValue.yes = refl
truth_c IsTruthValue.no = refl
truth_c IsTruthValue.unknown = refl

pub truth_no_not : {ts r : List Token} {t : Truth} → IsTruthValue ts t r → after (is_word w.Not) ts ≡ None
truth_no_not IsTruthValue.yes = refl
truth_no_not IsTruthValue.no = refl
truth_no_not IsTruthValue.unknown = refl

pub truth_no_null : {ts r : List Token} {t : Truth} → IsTruthValue ts t r → after (is_word w.Null) ts ≡ None
truth_no_null IsTruthValue.yes = refl
truth_no_null IsTruthValue.no = refl
truth_no_null IsTruthValue.unknown = refl

pub mark_c : {ts r : List Token} {n : Bool} → IsOptional w.Not ts n r → after (is_word w.Not) r ≡ None → mark_at ts ≡ (n, r)
unfolding mark_at
mark_c IsOptional.none e = rw e refl
mark_c IsOptional.written e = refl

pub aggregate_no_literal : {ts r : List Token} {f : Aggregate} → IsAggregate ts f r → literal_at ts ≡ None
unfolding literal_at
aggregate_no_literal IsAggregate.count_rows = refl
aggregate_no_literal IsAggregate.count = refl
aggregate_no_literal IsAggregate.count_distinct = refl
aggregate_no_literal IsAggregate.sum = refl
aggregate_no_literal IsAggregate.min = refl
aggregate_no_literal IsAggregate.max = refl
aggregate_no_literal IsAggregate.avg = refl

pub literal_short : Shrinks IsLiteral
literal_short _ _ _ IsLiteral.integer = omega arith
literal_short _ _ _ IsLiteral.text = omega arith
literal_short _ _ _ IsLiteral.yes = omega arith
literal_short _ _ _ IsLiteral.no = omega arith

pub op_short : Shrinks IsOp
op_short _ _ _ IsOp.eq = omega arith
op_short _ _ _ IsOp.ne = omega arith
op_short _ _ _ IsOp.lt = omega arith
op_short _ _ _ IsOp.le = omega arith
op_short _ _ _ IsOp.gt = omega arith
op_short _ _ _ IsOp.ge = omega arith

pub truth_short : Shrinks IsTruthValue
truth_short _ _ _ IsTruthValue.yes = omega arith
truth_short _ _ _ IsTruthValue.no = omega arith
truth_short _ _ _ IsTruthValue.unknown = omega arith

pub mark_short : Shrinks (IsOptional w.Not)
mark_short _ _ _ IsOptional.none = omega arith
mark_short _ _ _ IsOptional.written = omega arith
