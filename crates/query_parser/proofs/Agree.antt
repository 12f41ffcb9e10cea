-- What a reader of narrow limits reads, and where it finds a token that is not expected, the reader
-- of wider limits does too: the two agree unless the narrow one finds too much.
use Rattle.std.proofs.Common.{arith, length, ◌≤◌, ◌+◌, ◌-◌, ◌≡◌, ℕ, zero, suc, Bool, true, false, cond, List, [], ◌∷◌, Option, Some, None, is_some, Result, Ok, Err, refl}
use Rattle.semantics.specs.declared.token.Token.{Token}
use Rattle.semantics.specs.declared.token.Sign.TheVariants as s
use Rattle.query_lexer.specs.Options.{choose}
use Rattle.semantics.specs.Leaves.{Limits}
use Rattle.values.specs.Results.{◌>>=◌}
use Rattle.query_parser.specs.Inside.Stops.{Stop}
use Rattle.query_parser.specs.Inside.Stops as halts
use Rattle.query_parser.specs.Inside.Fronts.{is_sign, after}
use Rattle.query_parser.specs.Inside.Steps.{Reader, unexpected_at, found_or_unexpected, excess, with_front, more, listed_at, name_at, begins_name}
use Rattle.query_parser.specs.Inside.LeafSteps.{arguments_at, literal_at, begins_literal, literals_at}

-- ---- limits

-- These limits are each at least as wide as those.
pub record Wider (narrow wide : Limits) : Type 0 where
  pub items : narrow.items ≤ wide.items
  pub arguments : narrow.arguments ≤ wide.arguments
  pub literals : narrow.literals ≤ wide.literals
  pub levels : narrow.levels ≤ wide.levels
  pub sets : narrow.sets ≤ wide.sets

-- Any limits are as wide as themselves.
pub wider_same : (limits : Limits) → Wider limits limits
wider_same limits = record { items = omega arith; arguments = omega arith; literals = omega arith; levels = omega arith; sets = omega arith }

-- ---- results

-- Both give the same, or the first one finds too much.
pub data Agrees {A : Type 0} : Result A Stop → Result A Stop → Type 0 where
  same : {r : Result A Stop} → Agrees r r
  over : {n : ℕ} {r : Result A Stop} → Agrees (Err (halts.over_limit n)) r

-- One step and then another.
pub agrees_bind : {A B : Type 0} {o p : Result A Stop} {f g : A → Result B Stop} → Agrees o p → ((x : A) → Agrees (f x) (g x)) → Agrees (o >>= f) (p >>= g)
agrees_bind (Agrees.same {r = Ok x}) h = h x
agrees_bind (Agrees.same {r = Err e}) h = Agrees.same
agrees_bind Agrees.over h = Agrees.over

-- One choice, with two ways on either side.
pub agrees_choose : {A B : Type 0} (o : Option A) {n m : Result B Stop} {f g : A → Result B Stop} → Agrees n m → ((x : A) → Agrees (f x) (g x)) → Agrees (choose o n f) (choose o m g)
agrees_choose None h k = h
agrees_choose (Some x) h k = k x

-- ---- lists

-- What was read before is the same on both sides.
agrees_front : {A : Type 0} (front : List A) {o p : Result (List A × List Token) Stop} → Agrees o p → Agrees (with_front front o) (with_front front p)
agrees_front front h = agrees_bind h (λ x. Agrees.same)

-- Where a part is too many, the reader of wider limits stops too unless a part begins.
agrees_excess : {A B : Type 0} (begins : List Token → Bool) (wide_part : Reader A) (next : A × List Token → Result B Stop) (ts : List Token) → (begins ts ≡ false → wide_part ts ≡ unexpected_at ts) → Agrees (Err (excess begins ts)) (wide_part ts >>= next)
agrees_excess {A} {B} begins wide_part next ts stops = of_test (begins ts) stops where
  of_test : (b : Bool) → (b ≡ false → wide_part ts ≡ unexpected_at ts) → Agrees (Err (cond b (halts.over_limit (length ts)) (halts.unexpected (length ts)))) (wide_part ts >>= next)
  of_test true h = Agrees.over
  of_test false h = rw (h refl) Agrees.same

-- Parts behind their separators, with at most n on one side and at most m on the other.
pub agrees_more : {A : Type 0} (sep : Token → Bool) (begins : List Token → Bool) (part wide_part : Reader A) (n m : ℕ) → n ≤ m → ((ts : List Token) → Agrees (part ts) (wide_part ts)) → ((ts : List Token) → begins ts ≡ false → wide_part ts ≡ unexpected_at ts)
    → (ts : List Token) → Agrees (more sep begins part n ts) (more sep begins wide_part m ts)
unfolding more
agrees_more sep begins part wide_part zero zero few h stops ts = Agrees.same
agrees_more sep begins part wide_part (suc n) zero few h stops ts = absurd (omega arith)
agrees_more sep begins part wide_part zero (suc m) few h stops ts = agrees_choose (after sep ts) Agrees.same (λ rest. agrees_excess begins wide_part _ rest (stops rest))
agrees_more sep begins part wide_part (suc n) (suc m) few h stops ts =
    agrees_choose (after sep ts) Agrees.same (λ rest. agrees_bind (h rest) (λ first. agrees_front (first.0 ∷ []) (agrees_more sep begins part wide_part n m (omega arith) h stops first.1)))

-- The same with one bound on both sides.
pub agrees_all : {A : Type 0} (sep : Token → Bool) (begins : List Token → Bool) (part wide_part : Reader A) → ((ts : List Token) → Agrees (part ts) (wide_part ts)) → (n : ℕ) (ts : List Token) → Agrees (more sep begins part n ts) (more sep begins wide_part n ts)
unfolding more
agrees_all sep begins part wide_part h zero ts = Agrees.same
agrees_all sep begins part wide_part h (suc n) ts =
    agrees_choose (after sep ts) Agrees.same (λ rest. agrees_bind (h rest) (λ first. agrees_front (first.0 ∷ []) (agrees_all sep begins part wide_part h n first.1)))

-- A part and those behind it.
pub agrees_listed : {A : Type 0} (begins : List Token → Bool) (part wide_part : Reader A) (n m : ℕ) → n ≤ m → ((ts : List Token) → Agrees (part ts) (wide_part ts)) → ((ts : List Token) → begins ts ≡ false → wide_part ts ≡ unexpected_at ts)
    → (ts : List Token) → Agrees (listed_at begins part n ts) (listed_at begins wide_part m ts)
agrees_listed begins part wide_part n m few h stops ts = agrees_bind (h ts) (λ first. agrees_front (first.0 ∷ []) (agrees_more (is_sign s.Comma) begins part wide_part n m few h stops first.1))

-- What has to stand in front does not stand there.
stuck_where_none : {A : Type 0} (front : List Token → Option A) (ts : List Token) → is_some (front ts) ≡ false → found_or_unexpected front ts ≡ unexpected_at ts
stuck_where_none {A} front ts e = of_front (front ts) e where
  of_front : (o : Option A) → is_some o ≡ false → choose o (unexpected_at ts) (λ x. Ok x) ≡ unexpected_at ts
  of_front None h = refl
  of_front (Some x) h = absurd cc

-- The bracketed names behind GROUPING.
pub arguments_agree : (n m : ℕ) → n ≤ m → (ts : List Token) → Agrees (arguments_at n ts) (arguments_at m ts)
unfolding arguments_at
arguments_agree n m few ts = agrees_bind Agrees.same (λ a. agrees_bind (agrees_listed begins_name (found_or_unexpected name_at) (found_or_unexpected name_at) (n - 1) (m - 1) (omega arith) (λ us. Agrees.same) (stuck_where_none name_at) a) (λ all. Agrees.same))

-- The bracketed literals behind IN.
pub literals_agree : (n m : ℕ) → n ≤ m → (ts : List Token) → Agrees (literals_at n ts) (literals_at m ts)
unfolding literals_at
literals_agree n m few ts = agrees_bind Agrees.same (λ a. agrees_bind (agrees_listed begins_literal (found_or_unexpected literal_at) (found_or_unexpected literal_at) (n - 1) (m - 1) (omega arith) (λ us. Agrees.same) (stuck_where_none literal_at) a) (λ all. Agrees.same))

-- ---- wider limits

-- Limits that are as wide as two others together.
abbrev pub both : Limits → Limits → Limits
both one other = record {
  items = one.items + other.items;
  arguments = one.arguments + other.arguments;
  literals = one.literals + other.literals;
  levels = one.levels + other.levels;
  sets = one.sets + other.sets;
}

pub wider_one : (one other : Limits) → Wider one (both one other)
wider_one one other = record { items = omega arith; arguments = omega arith; literals = omega arith; levels = omega arith; sets = omega arith }

pub wider_other : (one other : Limits) → Wider other (both one other)
wider_other one other = record { items = omega arith; arguments = omega arith; literals = omega arith; levels = omega arith; sets = omega arith }

-- A token that is not expected within narrow limits is not expected within wider ones.
pub agrees_unexpected : {A : Type 0} {o p : Result A Stop} → Agrees o p → (left : ℕ) → o ≡ Err (halts.unexpected left) → p ≡ Err (halts.unexpected left)
agrees_unexpected Agrees.same left e = e
agrees_unexpected Agrees.over left e = absurd cc

-- What is read within narrow limits is read within wider ones.
pub agrees_ok : {A : Type 0} {o p : Result A Stop} → Agrees o p → (x : A) → o ≡ Ok x → p ≡ Ok x
agrees_ok Agrees.same x e = e
agrees_ok Agrees.over x e = absurd cc
