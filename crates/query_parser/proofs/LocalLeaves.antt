-- The readers of leaves are local.
use Rattle.std.proofs.Common.{◌-◌, ◌≡◌, ◌⊎◌, inl, inr, ℕ, Bool, true, false, List, [], ◌∷◌, ◌++◌, Some, None, Ok, refl}
use Rattle.semantics.specs.declared.truth.Truth.TheVariants as truth
use Rattle.semantics.specs.declared.comparison.Op.{Op}
use Rattle.semantics.specs.declared.comparison.Op.TheVariants as op
use Rattle.semantics.specs.declared.token.Token.{Token}
use Rattle.semantics.specs.declared.token.Token.TheVariants as tokens
use Rattle.semantics.specs.declared.token.Word.TheVariants as w
use Rattle.semantics.specs.declared.token.Sign.TheVariants as s
use Rattle.query_lexer.specs.Options.{choose}
use Rattle.semantics.specs.declared.aggregate.Aggregate.{Aggregate}
use Rattle.semantics.specs.declared.aggregate.Aggregate.TheVariants as aggregates
use Rattle.semantics.specs.declared.literal.Literal.{Literal}
use Rattle.semantics.specs.declared.literal.Literal.TheVariants as literals
use Rattle.values.specs.Results.{◌>>=◌}
use Rattle.query_parser.specs.Inside.Fronts.{is_word, is_sign, after}
use Rattle.query_parser.specs.Inside.Steps.{Reader, unexpected_at, found_or_unexpected, with_front, more, listed_at, bracketed_at, name_at, begins_name}
use Rattle.query_parser.specs.Inside.LeafSteps.{closed_name_at, argument_at, counted_name_at, count_at, aggregate_at, arguments_at, literal_at, begins_literal, literals_at, op_at, truth_at}
use Rattle.query_parser.proofs.Local.{IsFront, Local, local_ok, local_stuck, local_end, local_head, local_token, local_choose, local_bind, local_found_or_stuck, local_found_or_stuck_front, local_more}

-- ---- lists

-- Whether a part begins is told by the token in front.
abbrev pub TellsByFront : (List Token → Bool) → Type 0
TellsByFront b = (t : Token) (us vs : List Token) → b (t ∷ us) ≡ b (t ∷ vs)

pub local_listed : {A : Type 0} (b : List Token → Bool) (f : Reader A) → TellsByFront b → Local true f → (n : ℕ) → Local true (listed_at b f n)
local_listed b f front lf n = local_bind f (λ x us. with_front (x ∷ []) (more (is_sign s.Comma) b f n us)) lf
    (λ x. local_bind (more (is_sign s.Comma) b f n) (λ xs us. Ok ((x ∷ []) ++ xs, us)) (local_more (is_sign s.Comma) b f front lf n) (λ xs. local_ok ((x ∷ []) ++ xs)))

-- A value and its closing bracket.
pub local_closed : {A : Type 0} (x : A) → Local true (λ ts. found_or_unexpected (after (is_sign s.Close)) ts >>= λ rest. Ok (x, rest))
local_closed x = local_found_or_stuck (is_sign s.Close) (λ us. Ok (x, us)) (local_ok x)

pub local_bracketed : {A : Type 0} (b : List Token → Bool) (f : Reader A) → TellsByFront b → Local true f → (n : ℕ) → Local true (bracketed_at b f n)
local_bracketed b f front lf n = local_found_or_stuck (is_sign s.Open) (λ a. listed_at b f n a >>= λ all. found_or_unexpected (after (is_sign s.Close)) all.1 >>= λ rest. Ok (all.0, rest))
    (local_bind (listed_at b f n) (λ xs us. found_or_unexpected (after (is_sign s.Close)) us >>= λ rest. Ok (xs, rest)) (local_listed b f front lf n) local_closed)

-- ---- names and set functions

name_token : (t : Token) → ((us : List Token) → name_at (t ∷ us) ≡ None) ⊎ ((x : List ℕ) × ((us : List Token) → name_at (t ∷ us) ≡ Some (x, us)))
unfolding name_at
name_token (tokens.Name n) = inr (n, λ us. refl)
name_token (tokens.Word n) = inl (λ us. refl)
name_token (tokens.Sign n) = inl (λ us. refl)
name_token (tokens.Integer n) = inl (λ us. refl)
name_token (tokens.Text n) = inl (λ us. refl)

pub name_front : IsFront name_at
unfolding name_at
name_front = record { at_end = refl; at_token = name_token }

pub closed_name_l : Local true closed_name_at
unfolding closed_name_at
closed_name_l = local_bind (found_or_unexpected name_at) (λ n us. found_or_unexpected (after (is_sign s.Close)) us >>= λ rest. Ok (n, rest)) (local_found_or_stuck_front name_at name_front) local_closed

argument_l : Local true argument_at
unfolding argument_at
argument_l = local_found_or_stuck (is_sign s.Open) (λ a. closed_name_at a) closed_name_l

-- What a name behind some tokens makes.
named_l : {A B : Type 0} (f : Reader A) (make : A → B) → Local true f → Local true (λ ts. f ts >>= λ n. Ok (make n.0, n.1))
named_l f make lf = local_bind f (λ x us. Ok (make x, us)) lf (λ x. local_ok (make x))

counted_l : Local true counted_name_at
unfolding counted_name_at
counted_l = local_choose (is_word w.Distinct) (λ ts. closed_name_at ts >>= λ n. Ok (aggregates.Count n.0, n.1)) (λ a. closed_name_at a >>= λ n. Ok (aggregates.CountDistinct n.0, n.1))
    (named_l closed_name_at (λ n. aggregates.Count n) closed_name_l) (named_l closed_name_at (λ n. aggregates.CountDistinct n) closed_name_l)

count_l : Local true count_at
unfolding count_at
count_l = local_found_or_stuck (is_sign s.Open) (λ a. choose (after (is_sign s.Star) a) (counted_name_at a) (λ b. found_or_unexpected (after (is_sign s.Close)) b >>= λ rest. Ok (aggregates.CountRows, rest)))
    (local_choose (is_sign s.Star) counted_name_at (λ b. found_or_unexpected (after (is_sign s.Close)) b >>= λ rest. Ok (aggregates.CountRows, rest)) counted_l (local_closed aggregates.CountRows))

-- A set function of a name behind a word.
of_argument : (make : List ℕ → Aggregate) → Local true (λ ts. argument_at ts >>= λ n. Ok (make n.0, n.1))
of_argument make = named_l argument_at make argument_l

pub aggregate_l : Local true aggregate_at
unfolding aggregate_at
aggregate_l [] = local_end aggregate_at unexpected_at refl (local_stuck [])
aggregate_l (tokens.Word w.Count ∷ ts) = local_token aggregate_at count_at (tokens.Word w.Count) ts (λ us. refl) (count_l ts)
aggregate_l (tokens.Word w.Sum ∷ ts) = local_token aggregate_at (λ us. argument_at us >>= λ n. Ok (aggregates.Sum n.0, n.1)) (tokens.Word w.Sum) ts (λ us. refl) (of_argument (λ n. aggregates.Sum n) ts)
aggregate_l (tokens.Word w.Min ∷ ts) = local_token aggregate_at (λ us. argument_at us >>= λ n. Ok (aggregates.Min n.0, n.1)) (tokens.Word w.Min) ts (λ us. refl) (of_argument (λ n. aggregates.Min n) ts)
aggregate_l (tokens.Word w.Max ∷ ts) = local_token aggregate_at (λ us. argument_at us >>= λ n. Ok (aggregates.Max n.0, n.1)) (tokens.Word w.Max) ts (λ us. refl) (of_argument (λ n. aggregates.Max n) ts)
aggregate_l (tokens.Word w.Avg ∷ ts) = local_token aggregate_at (λ us. argument_at us >>= λ n. Ok (aggregates.Avg n.0, n.1)) (tokens.Word w.Avg) ts (λ us. refl) (of_argument (λ n. aggregates.Avg n) ts)
aggregate_l (t ∷ ts) = local_head aggregate_at unexpected_at t ts (λ us. refl) (local_stuck (t ∷ ts))

pub name_told : TellsByFront begins_name
unfolding name_at
name_told (tokens.Name n) us vs = refl
name_told (tokens.Word n) us vs = refl
name_told (tokens.Sign n) us vs = refl
name_told (tokens.Integer n) us vs = refl
name_told (tokens.Text n) us vs = refl

pub arguments_l : (most : ℕ) → Local true (arguments_at most)
unfolding arguments_at
arguments_l most = local_bracketed begins_name (found_or_unexpected name_at) name_told (local_found_or_stuck_front name_at name_front) (most - 1)

-- ---- literals, operators and truth values

literal_token : (t : Token) → ((us : List Token) → literal_at (t ∷ us) ≡ None) ⊎ ((x : Literal) × ((us : List Token) → literal_at (t ∷ us) ≡ Some (x, us)))
unfolding literal_at
literal_token (tokens.Integer n) = inr (literals.Integer n, λ us. refl)
literal_token (tokens.Text n) = inr (literals.Text n, λ us. refl)
literal_token (tokens.Word w.True) = inr (literals.Truth true, λ us. refl)
literal_token (tokens.Word w.False) = inr (literals.Truth false, λ us. refl)
literal_token t = inl (λ us. refl)

pub literal_front : IsFront literal_at
unfolding literal_at
literal_front = record { at_end = refl; at_token = literal_token }

literal_told : TellsByFront begins_literal
unfolding literal_at
literal_told (tokens.Integer n) us vs = refl
literal_told (tokens.Text n) us vs = refl
literal_told (tokens.Word w.True) us vs = refl
literal_told (tokens.Word w.False) us vs = refl
literal_told t us vs = refl

op_token : (t : Token) → ((us : List Token) → op_at (t ∷ us) ≡ None) ⊎ ((x : Op) × ((us : List Token) → op_at (t ∷ us) ≡ Some (x, us)))
unfolding op_at
op_token (tokens.Sign s.Equal) = inr (op.Eq, λ us. refl)
op_token (tokens.Sign s.NotEqual) = inr (op.Ne, λ us. refl)
op_token (tokens.Sign s.Less) = inr (op.Lt, λ us. refl)
op_token (tokens.Sign s.LessOrEqual) = inr (op.Le, λ us. refl)
op_token (tokens.Sign s.Greater) = inr (op.Gt, λ us. refl)
op_token (tokens.Sign s.GreaterOrEqual) = inr (op.Ge, λ us. refl)
op_token t = inl (λ us. refl)

pub op_front : IsFront op_at
unfolding op_at
op_front = record { at_end = refl; at_token = op_token }

pub literals_l : (most : ℕ) → Local true (literals_at most)
unfolding literals_at
literals_l most = local_bracketed begins_literal (found_or_unexpected literal_at) literal_told (local_found_or_stuck_front literal_at literal_front) (most - 1)

pub truth_l : Local true truth_at
unfolding truth_at
truth_l [] = local_end truth_at unexpected_at refl (local_stuck [])
truth_l (tokens.Word w.True ∷ ts) = local_token truth_at (λ us. Ok (truth.True, us)) (tokens.Word w.True) ts (λ us. refl) (local_ok truth.True ts)
truth_l (tokens.Word w.False ∷ ts) = local_token truth_at (λ us. Ok (truth.False, us)) (tokens.Word w.False) ts (λ us. refl) (local_ok truth.False ts)
truth_l (tokens.Word w.Unknown ∷ ts) = local_token truth_at (λ us. Ok (truth.Unknown, us)) (tokens.Word w.Unknown) ts (λ us. refl) (local_ok truth.Unknown ts)
truth_l (t ∷ ts) = local_head truth_at unexpected_at t ts (λ us. refl) (local_stuck (t ∷ ts))
