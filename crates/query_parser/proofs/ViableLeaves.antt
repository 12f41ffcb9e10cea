-- The readers of leaves have the valid prefix property.
use Rattle.std.proofs.Common.{arith, ◌-◌, ◌≡◌, ◌⊎◌, inl, inr, ℕ, Bool, true, false, List, [], ◌∷◌, Option, Some, None, Ok, refl}
use Rattle.std.specs.Prelude.{codes}
use Rattle.semantics.specs.declared.comparison.Op.{Op}
use Rattle.semantics.specs.declared.comparison.Op.TheVariants as op
use Rattle.semantics.specs.declared.truth.Truth.{Truth}
use Rattle.semantics.specs.declared.truth.Truth.TheVariants as truth
use Rattle.semantics.specs.declared.token.Token.{Token}
use Rattle.semantics.specs.declared.token.Token.TheVariants as tokens
use Rattle.semantics.specs.declared.token.Word.{Word}
use Rattle.semantics.specs.declared.token.Word.TheVariants as w
use Rattle.semantics.specs.declared.token.Sign.TheVariants as s
use Rattle.query_lexer.specs.Options.{choose}
use Rattle.semantics.specs.declared.aggregate.Aggregate.{Aggregate}
use Rattle.semantics.specs.declared.aggregate.Aggregate.TheVariants as aggregates
use Rattle.semantics.specs.declared.literal.Literal.{Literal}
use Rattle.semantics.specs.declared.literal.Literal.TheVariants as literals
use Rattle.query_parser.specs.Inside.Fronts.{is_word, is_sign, after}
use Rattle.query_parser.specs.Inside.Steps.{Reader, unexpected_at, found_or_unexpected, more, listed_at, name_at, begins_name}
use Rattle.query_parser.specs.Inside.LeafSteps.{closed_name_at, argument_at, counted_name_at, count_at, aggregate_at, arguments_at, literal_at, begins_literal, literals_at, op_at, truth_at, mark_at}
use Rattle.semantics.specs.Leaves.{Limits, language_limits, Derivation, IsName, IsAggregate, IsLiteral, IsOp, IsTruthValue, IsRepeated, IsOptional}
use Rattle.values.specs.Results.{◌>>=◌}
use Rattle.query_parser.proofs.Heads.{after_word_is, after_sign_is}
use Rattle.query_parser.proofs.Viable.{Phrase, Viable, Finds, BeginsPart, TellsPart, AtMost, Listed, Closed, Enclosed, counted, phrase_listed, viable_ok, viable_stuck, viable_as, viable_same, viable_made, viable_choose, viable_found_or_stuck, viable_found_or_stuck_front, viable_more, viable_listed, viable_closed, viable_enclosed}

-- The limits within which a reader's fronts go on: those of the language, or ones wider by one,
-- where a fault may be that it is too much.
abbrev pub limits_of : Bool → Limits
limits_of false = language_limits
limits_of true = record { items = 65; arguments = 9; literals = 65; levels = 65; sets = 17 }

-- ---- words

-- One reader behind a word, and another where it does not stand in front.
pub viable_word : {A : Type 0} {wide : Bool} {R : Derivation A} (word : Word) (n g : Reader A) → Viable true wide R n → Viable true wide (λ us x ws. R (tokens.Word word ∷ us) x ws) g → Viable true wide R (λ ts. choose (after (is_word word) ts) (n ts) (λ a. g a))
viable_word word n g vn vg = viable_choose (is_word word) (tokens.Word word) (after_word_is word) (λ i. absurd cc) (λ us vs x q. q) n g vn vg

-- What has to stand behind a word that has to stand in front.
pub found_or_stuck_word : {A : Type 0} {wide : Bool} {R : Derivation A} (word : Word) (g : Reader A) → Phrase (λ us x ws. R (tokens.Word word ∷ us) x ws) → Viable true wide (λ us x ws. R (tokens.Word word ∷ us) x ws) g
    → Viable true wide R (λ ts. found_or_unexpected (after (is_word word)) ts >>= λ a. g a)
found_or_stuck_word word g phrase vg = viable_found_or_stuck (is_word word) (tokens.Word word) (after_word_is word) (λ i. absurd cc) (λ us vs x q. q) g phrase vg

-- A word, or none, and what is read behind it.
pub flag_way : {A : Type 0} (word : Word) (g : Bool → Reader A) (ts : List Token)
    → g (choose {B = Bool × List Token} (after (is_word word) ts) (false, ts) (λ r. (true, r))).0 (choose {B = Bool × List Token} (after (is_word word) ts) (false, ts) (λ r. (true, r))).1 ≡ choose (after (is_word word) ts) (g false ts) (λ a. g true a)
flag_way {A} word g ts = of_way (after (is_word word) ts) where
  of_way : (o : Option (List Token)) → g (choose {B = Bool × List Token} o (false, ts) (λ r. (true, r))).0 (choose {B = Bool × List Token} o (false, ts) (λ r. (true, r))).1 ≡ choose o (g false ts) (λ a. g true a)
  of_way None = refl
  of_way (Some r) = refl

-- NOT, or none, and what is read behind it.
pub viable_mark : {A : Type 0} {wide : Bool} {R : Derivation A} (Q : Bool → Derivation A) (g : Bool → Reader A) → ((us vs ws : List Token) (n : Bool) (x : A) → IsOptional w.Not us n vs → Q n vs x ws → R us x ws) → ((n : Bool) → Viable true wide (Q n) (g n))
    → Viable true wide R (λ ts. g (mark_at ts).0 (mark_at ts).1)
unfolding mark_at
viable_mark Q g join vg =
    viable_same (λ ts. g (mark_at ts).0 (mark_at ts).1) (λ ts. choose (after (is_word w.Not) ts) (g false ts) (λ a. g true a)) (flag_way w.Not g)
    (viable_word w.Not (g false) (g true) (viable_as (λ us ws x q. join us us ws false x IsOptional.none q) (vg false)) (viable_as (λ us ws x q. join (tokens.Word w.Not ∷ us) us ws true x IsOptional.written q) (vg true)))

-- ---- names

pub name_finds : Finds IsName name_at
unfolding name_at
name_finds = record { at_end = refl; at_token = at_token } where
  at_token : (t : Token) → ((us : List Token) → name_at (t ∷ us) ≡ None) ⊎ ((n : List ℕ) × ((us : List Token) → name_at (t ∷ us) ≡ Some (n, us)) × ((us : List Token) → IsName (t ∷ us) n us) × (counted t ≡ true))
  at_token (tokens.Name n) = inr (n, λ us. refl, λ us. IsName.name, refl)
  at_token t = inl (λ us. refl)

abbrev pub name_phrase : Phrase IsName
name_phrase = record { tokens = tokens.Name (codes "a") ∷ []; value = codes "a"; derived = λ other. IsName.name }

pub name_part : TellsPart IsName begins_name
unfolding name_at
name_part = record { at_end = refl; at_token = at_token } where
  at_token : (t : Token) (us : List Token) → begins_name (t ∷ us) ≡ true → BeginsPart IsName t
  at_token (tokens.Name n) us e = record { counts = refl; behind = []; value = n; derived = λ other. IsName.name }
  at_token t us e = absurd cc

pub name_v : {wide : Bool} → Viable true wide IsName (found_or_unexpected name_at)
name_v = viable_found_or_stuck_front name_at name_finds name_phrase

-- The names in brackets behind GROUPING.
abbrev pub Arguments : Bool → Derivation (List (List ℕ))
Arguments wide = Enclosed (Listed IsName (AtMost (tokens.Sign s.Comma) IsName ((limits_of wide).arguments - 1)))

pub arguments_v : (wide : Bool) → Viable true wide (Arguments wide) (arguments_at language_limits.arguments)
unfolding arguments_at
arguments_v wide = viable_enclosed (listed_at begins_name (found_or_unexpected name_at) 7) (phrase_listed none name_phrase) (viable_listed (found_or_unexpected name_at) (more (is_sign s.Comma) begins_name (found_or_unexpected name_at) 7) none name_v (names wide)) where
  none : (ts : List Token) → AtMost (tokens.Sign s.Comma) IsName ((limits_of wide).arguments - 1) ts [] ts
  none ts = (IsRepeated.none, omega arith)

  names : (wide : Bool) → Viable true wide (AtMost (tokens.Sign s.Comma) IsName ((limits_of wide).arguments - 1)) (more (is_sign s.Comma) begins_name (found_or_unexpected name_at) 7)
  names true = viable_more (is_sign s.Comma) (tokens.Sign s.Comma) begins_name (found_or_unexpected name_at) (after_sign_is s.Comma) refl name_part name_phrase name_v 7 8 (omega arith) (λ i. omega arith)
  names false = viable_more (is_sign s.Comma) (tokens.Sign s.Comma) begins_name (found_or_unexpected name_at) (after_sign_is s.Comma) refl name_part name_phrase name_v 7 7 (omega arith) (λ i. absurd cc)

-- ---- set functions

closed_name_v : {wide : Bool} → Viable true wide (Closed IsName) closed_name_at
unfolding closed_name_at
closed_name_v = viable_closed IsName (found_or_unexpected name_at) name_v

argument_v : {wide : Bool} → Viable true wide (Enclosed IsName) argument_at
unfolding argument_at closed_name_at
argument_v = viable_enclosed (found_or_unexpected name_at) name_phrase name_v

-- A set function behind its word.
abbrev Of : Word → Derivation Aggregate
Of word ts f rest = IsAggregate (tokens.Word word ∷ ts) f rest

-- COUNT behind its bracket, and behind DISTINCT there.
abbrev Counted : Derivation Aggregate
Counted ts f rest = IsAggregate (tokens.Word w.Count ∷ tokens.Sign s.Open ∷ ts) f rest

abbrev CountedDistinct : Derivation Aggregate
CountedDistinct ts f rest = Counted (tokens.Word w.Distinct ∷ ts) f rest

counted_v : {wide : Bool} → Viable true wide Counted counted_name_at
unfolding counted_name_at
counted_v = viable_word w.Distinct (λ ts. closed_name_at ts >>= λ n. Ok (aggregates.Count n.0, n.1)) (λ a. closed_name_at a >>= λ n. Ok (aggregates.CountDistinct n.0, n.1)) (viable_made closed_name_at (λ n. aggregates.Count n) count closed_name_v) (viable_made closed_name_at (λ n. aggregates.CountDistinct n) count_distinct closed_name_v) where
  count : (us vs : List Token) (n : List ℕ) → Closed IsName us n vs → Counted us (aggregates.Count n) vs
  count _ _ _ IsName.name = IsAggregate.count

  count_distinct : (us vs : List Token) (n : List ℕ) → Closed IsName us n vs → CountedDistinct us (aggregates.CountDistinct n) vs
  count_distinct _ _ _ IsName.name = IsAggregate.count_distinct

count_v : {wide : Bool} → Viable true wide (Of w.Count) count_at
unfolding count_at
count_v = viable_found_or_stuck {Q = Counted} (is_sign s.Open) (tokens.Sign s.Open) (after_sign_is s.Open) (λ i. refl) (λ us vs x q. q) (λ a. choose (after (is_sign s.Star) a) (counted_name_at a) (λ b. found_or_unexpected (after (is_sign s.Close)) b >>= λ rest. Ok (aggregates.CountRows, rest)))
    record { tokens = tokens.Sign s.Star ∷ tokens.Sign s.Close ∷ []; value = aggregates.CountRows; derived = λ other. IsAggregate.count_rows }
    (viable_choose {Q = λ us f ws. Counted (tokens.Sign s.Star ∷ us) f ws} (is_sign s.Star) (tokens.Sign s.Star) (after_sign_is s.Star) (λ i. refl) (λ us vs x q. q) counted_name_at (λ b. found_or_unexpected (after (is_sign s.Close)) b >>= λ rest. Ok (aggregates.CountRows, rest)) counted_v
    (viable_found_or_stuck {Q = λ us f ws. Counted (tokens.Sign s.Star ∷ tokens.Sign s.Close ∷ us) f ws} (is_sign s.Close) (tokens.Sign s.Close) (after_sign_is s.Close) (λ i. refl) (λ us vs x q. q) (λ rest. Ok (aggregates.CountRows, rest)) record { tokens = []; value = aggregates.CountRows; derived = λ other. IsAggregate.count_rows } (viable_ok aggregates.CountRows (λ ts. IsAggregate.count_rows))))

sum_v : {wide : Bool} → Viable true wide (Of w.Sum) (λ ts. argument_at ts >>= λ n. Ok (aggregates.Sum n.0, n.1))
sum_v = viable_made argument_at (λ n. aggregates.Sum n) sum argument_v where
  sum : (us vs : List Token) (n : List ℕ) → Enclosed IsName us n vs → Of w.Sum us (aggregates.Sum n) vs
  sum _ _ _ (Enclosed.brackets IsName.name) = IsAggregate.sum

min_v : {wide : Bool} → Viable true wide (Of w.Min) (λ ts. argument_at ts >>= λ n. Ok (aggregates.Min n.0, n.1))
min_v = viable_made argument_at (λ n. aggregates.Min n) min argument_v where
  min : (us vs : List Token) (n : List ℕ) → Enclosed IsName us n vs → Of w.Min us (aggregates.Min n) vs
  min _ _ _ (Enclosed.brackets IsName.name) = IsAggregate.min

max_v : {wide : Bool} → Viable true wide (Of w.Max) (λ ts. argument_at ts >>= λ n. Ok (aggregates.Max n.0, n.1))
max_v = viable_made argument_at (λ n. aggregates.Max n) max argument_v where
  max : (us vs : List Token) (n : List ℕ) → Enclosed IsName us n vs → Of w.Max us (aggregates.Max n) vs
  max _ _ _ (Enclosed.brackets IsName.name) = IsAggregate.max

avg_v : {wide : Bool} → Viable true wide (Of w.Avg) (λ ts. argument_at ts >>= λ n. Ok (aggregates.Avg n.0, n.1))
avg_v = viable_made argument_at (λ n. aggregates.Avg n) avg argument_v where
  avg : (us vs : List Token) (n : List ℕ) → Enclosed IsName us n vs → Of w.Avg us (aggregates.Avg n) vs
  avg _ _ _ (Enclosed.brackets IsName.name) = IsAggregate.avg

abbrev pub aggregate_phrase : Phrase IsAggregate
aggregate_phrase = record { tokens = tokens.Word w.Count ∷ tokens.Sign s.Open ∷ tokens.Sign s.Star ∷ tokens.Sign s.Close ∷ []; value = aggregates.CountRows; derived = λ other. IsAggregate.count_rows }

-- A set function, whose word is looked at first.
worded_at : Reader Aggregate
worded_at ts = choose (after (is_word w.Count) ts) (choose (after (is_word w.Sum) ts) (choose (after (is_word w.Min) ts) (choose (after (is_word w.Max) ts) (choose (after (is_word w.Avg) ts) (unexpected_at ts)
    (λ a. argument_at a >>= λ n. Ok (aggregates.Avg n.0, n.1)))
    (λ a. argument_at a >>= λ n. Ok (aggregates.Max n.0, n.1)))
    (λ a. argument_at a >>= λ n. Ok (aggregates.Min n.0, n.1)))
    (λ a. argument_at a >>= λ n. Ok (aggregates.Sum n.0, n.1)))
    (λ a. count_at a)

aggregate_worded : (ts : List Token) → aggregate_at ts ≡ worded_at ts
unfolding aggregate_at worded_at
aggregate_worded [] = refl
aggregate_worded (tokens.Word w.Count ∷ ts) = refl
aggregate_worded (tokens.Word w.Sum ∷ ts) = refl
aggregate_worded (tokens.Word w.Min ∷ ts) = refl
aggregate_worded (tokens.Word w.Max ∷ ts) = refl
aggregate_worded (tokens.Word w.Avg ∷ ts) = refl
aggregate_worded (x ∷ ts) = refl

pub aggregate_v : {wide : Bool} → Viable true wide IsAggregate aggregate_at
unfolding worded_at
aggregate_v = viable_same aggregate_at worded_at aggregate_worded (viable_word w.Count _ (λ a. count_at a) (viable_word w.Sum _ (λ a. argument_at a >>= λ n. Ok (aggregates.Sum n.0, n.1)) (viable_word w.Min _ (λ a. argument_at a >>= λ n. Ok (aggregates.Min n.0, n.1)) (viable_word w.Max _ (λ a. argument_at a >>= λ n. Ok (aggregates.Max n.0, n.1)) (viable_word w.Avg unexpected_at (λ a. argument_at a >>= λ n. Ok (aggregates.Avg n.0, n.1)) (viable_stuck aggregate_phrase) avg_v) max_v) min_v) sum_v) count_v)

-- ---- literals, operators and truth values

pub literal_finds : Finds IsLiteral literal_at
unfolding literal_at
literal_finds = record { at_end = refl; at_token = at_token } where
  at_token : (t : Token) → ((us : List Token) → literal_at (t ∷ us) ≡ None) ⊎ ((x : Literal) × ((us : List Token) → literal_at (t ∷ us) ≡ Some (x, us)) × ((us : List Token) → IsLiteral (t ∷ us) x us) × (counted t ≡ true))
  at_token (tokens.Integer n) = inr (literals.Integer n, λ us. refl, λ us. IsLiteral.integer, refl)
  at_token (tokens.Text n) = inr (literals.Text n, λ us. refl, λ us. IsLiteral.text, refl)
  at_token (tokens.Word w.True) = inr (literals.Truth true, λ us. refl, λ us. IsLiteral.yes, refl)
  at_token (tokens.Word w.False) = inr (literals.Truth false, λ us. refl, λ us. IsLiteral.no, refl)
  at_token t = inl (λ us. refl)

abbrev pub literal_phrase : Phrase IsLiteral
literal_phrase = record { tokens = tokens.Word w.True ∷ []; value = literals.Truth true; derived = λ other. IsLiteral.yes }

literal_part : TellsPart IsLiteral begins_literal
unfolding literal_at
literal_part = record { at_end = refl; at_token = at_token } where
  at_token : (t : Token) (us : List Token) → begins_literal (t ∷ us) ≡ true → BeginsPart IsLiteral t
  at_token (tokens.Integer n) us e = record { counts = refl; behind = []; value = literals.Integer n; derived = λ other. IsLiteral.integer }
  at_token (tokens.Text n) us e = record { counts = refl; behind = []; value = literals.Text n; derived = λ other. IsLiteral.text }
  at_token (tokens.Word w.True) us e = record { counts = refl; behind = []; value = literals.Truth true; derived = λ other. IsLiteral.yes }
  at_token (tokens.Word w.False) us e = record { counts = refl; behind = []; value = literals.Truth false; derived = λ other. IsLiteral.no }
  at_token t us e = absurd cc

literal_v : {wide : Bool} → Viable true wide IsLiteral (found_or_unexpected literal_at)
literal_v = viable_found_or_stuck_front literal_at literal_finds literal_phrase

-- The literals in brackets behind IN.
abbrev pub Literals : Bool → Derivation (List Literal)
Literals wide = Enclosed (Listed IsLiteral (AtMost (tokens.Sign s.Comma) IsLiteral ((limits_of wide).literals - 1)))

abbrev pub literals_phrase : (wide : Bool) → Phrase (Literals wide)
literals_phrase wide = record { tokens = tokens.Sign s.Open ∷ tokens.Word w.True ∷ tokens.Sign s.Close ∷ []; value = literals.Truth true ∷ []; derived = λ other. Enclosed.brackets (Listed.parts IsLiteral.yes (IsRepeated.none, omega arith)) }

pub literals_v : (wide : Bool) → Viable true wide (Literals wide) (literals_at language_limits.literals)
unfolding literals_at
literals_v wide = viable_enclosed (listed_at begins_literal (found_or_unexpected literal_at) 63) (phrase_listed none literal_phrase) (viable_listed (found_or_unexpected literal_at) (more (is_sign s.Comma) begins_literal (found_or_unexpected literal_at) 63) none literal_v (others wide)) where
  none : (ts : List Token) → AtMost (tokens.Sign s.Comma) IsLiteral ((limits_of wide).literals - 1) ts [] ts
  none ts = (IsRepeated.none, omega arith)

  others : (wide : Bool) → Viable true wide (AtMost (tokens.Sign s.Comma) IsLiteral ((limits_of wide).literals - 1)) (more (is_sign s.Comma) begins_literal (found_or_unexpected literal_at) 63)
  others true = viable_more (is_sign s.Comma) (tokens.Sign s.Comma) begins_literal (found_or_unexpected literal_at) (after_sign_is s.Comma) refl literal_part literal_phrase literal_v 63 64 (omega arith) (λ i. omega arith)
  others false = viable_more (is_sign s.Comma) (tokens.Sign s.Comma) begins_literal (found_or_unexpected literal_at) (after_sign_is s.Comma) refl literal_part literal_phrase literal_v 63 63 (omega arith) (λ i. absurd cc)

pub op_finds : Finds IsOp op_at
unfolding op_at
op_finds = record { at_end = refl; at_token = at_token } where
  at_token : (t : Token) → ((us : List Token) → op_at (t ∷ us) ≡ None) ⊎ ((x : Op) × ((us : List Token) → op_at (t ∷ us) ≡ Some (x, us)) × ((us : List Token) → IsOp (t ∷ us) x us) × (counted t ≡ true))
  at_token (tokens.Sign s.Equal) = inr (op.Eq, λ us. refl, λ us. IsOp.eq, refl)
  at_token (tokens.Sign s.NotEqual) = inr (op.Ne, λ us. refl, λ us. IsOp.ne, refl)
  at_token (tokens.Sign s.Less) = inr (op.Lt, λ us. refl, λ us. IsOp.lt, refl)
  at_token (tokens.Sign s.LessOrEqual) = inr (op.Le, λ us. refl, λ us. IsOp.le, refl)
  at_token (tokens.Sign s.Greater) = inr (op.Gt, λ us. refl, λ us. IsOp.gt, refl)
  at_token (tokens.Sign s.GreaterOrEqual) = inr (op.Ge, λ us. refl, λ us. IsOp.ge, refl)
  at_token t = inl (λ us. refl)

abbrev pub truth_phrase : Phrase IsTruthValue
truth_phrase = record { tokens = tokens.Word w.True ∷ []; value = truth.True; derived = λ other. IsTruthValue.yes }

-- A truth value, whose word is looked at first.
truth_worded_at : Reader Truth
truth_worded_at ts = choose (after (is_word w.True) ts) (choose (after (is_word w.False) ts) (choose (after (is_word w.Unknown) ts) (unexpected_at ts) (λ r. Ok (truth.Unknown, r))) (λ r. Ok (truth.False, r))) (λ r. Ok (truth.True, r))

truth_worded : (ts : List Token) → truth_at ts ≡ truth_worded_at ts
unfolding truth_at truth_worded_at
truth_worded [] = refl
truth_worded (tokens.Word w.True ∷ ts) = refl
truth_worded (tokens.Word w.False ∷ ts) = refl
truth_worded (tokens.Word w.Unknown ∷ ts) = refl
truth_worded (x ∷ ts) = refl

pub truth_v : {wide : Bool} → Viable true wide IsTruthValue truth_at
unfolding truth_worded_at
truth_v = viable_same truth_at truth_worded_at truth_worded (viable_word w.True _ (λ r. Ok (truth.True, r)) (viable_word w.False _ (λ r. Ok (truth.False, r)) (viable_word w.Unknown unexpected_at (λ r. Ok (truth.Unknown, r)) (viable_stuck truth_phrase) (viable_ok truth.Unknown (λ ts. IsTruthValue.unknown))) (viable_ok truth.False (λ ts. IsTruthValue.no))) (viable_ok truth.True (λ ts. IsTruthValue.yes)))
