-- The readers of expressions have the valid prefix property.
use Rattle.std.proofs.Common.{arith, length, ◌<◌, ◌≡◌, ◌⊎◌, ℕ, Bool, true, false, cond, List, [], ◌∷◌, Option, Some, None, Result, Ok, Err, refl, sym, subst, inl, inr}
use Rattle.std.specs.Prelude.{codes}
use Rattle.semantics.specs.declared.token.Token.{Token}
use Rattle.semantics.specs.declared.token.Token.TheVariants as tokens
use Rattle.semantics.specs.declared.token.Word.TheVariants as w
use Rattle.semantics.specs.declared.token.Sign.TheVariants as s
use Rattle.query_lexer.specs.Options.{choose}
use Rattle.semantics.specs.declared.aggregate.Aggregate.{Aggregate}
use Rattle.semantics.specs.declared.aggregate.Aggregate.TheVariants as aggregates
use Rattle.semantics.specs.Syntax as syntax
use Rattle.semantics.specs.Syntax.{over_all, over_filtered}
use Rattle.query_parser.specs.Inside.Stops.{Stop}
use Rattle.query_parser.specs.Inside.Stops as halts
use Rattle.query_parser.specs.Inside.Fronts.{is_word, is_sign, after}
use Rattle.query_parser.specs.Inside.Steps.{Reader, unexpected_at, over, found_or_unexpected, name_at}
use Rattle.query_parser.specs.Inside.LeafSteps.{aggregate_at, arguments_at}
use Rattle.query_parser.specs.Inside.ExpressionSteps.{Inside, filter_at, function_at, expression_at, begins_expression}
use Rattle.semantics.specs.Leaves.{language_limits, Derivation, IsRepeated, IsName, IsAggregate}
use Rattle.semantics.specs.Productions.{IsFunction, IsExpression}
use Rattle.values.specs.Results.{◌>>=◌}
use Rattle.query_parser.proofs.Heads.{after_word_is, after_sign_is}
use Rattle.query_parser.proofs.Inversions.{choose_ok}
use Rattle.query_parser.proofs.Viable.{Phrase, GoesOn, Reaches, Claimed, Uncounted, Viable, BeginsPart, TellsPart, Listed, Closed, Enclosed, Exactly, choose_err, exactly, phrase_behind, phrase_closed, viable_ok, viable_over, viable_loose, viable_bind, viable_made, viable_found_or_stuck, viable_front, viable_closed, counted}
use Rattle.query_parser.proofs.ViableLeaves.{limits_of, viable_word, name_finds, aggregate_v, Arguments, arguments_v}

-- What reads a predicate in brackets is viable, and where something can stand in the brackets,
-- there is a phrase of it: where a level is left, and within the wider limits always.
pub record InsideViable (wide : Bool) (IsInner : Derivation syntax.Predicate) (inside : Inside) : Type 0 where
  pub limits_are : inside.limits ≡ language_limits
  pub read : Viable false wide IsInner inside.read
  pub phrase : inside.has_level ≡ true → Phrase IsInner
  pub wide_phrase : wide ≡ true → Phrase IsInner

-- A GROUPING may have a name.
some_arguments : (wide : Bool) → 0 < (limits_of wide).arguments
some_arguments true = omega arith
some_arguments false = omega arith

-- ---- FILTER

-- The brackets of a FILTER behind its word, with the predicate that stands in them.
data IsFilter (IsInner : Derivation syntax.Predicate) : List Token → syntax.Predicate → List Token → Type 0 where
  brackets : {ts rest : List Token} {p : syntax.Predicate} → IsInner ts p (tokens.Sign s.Close ∷ rest)
      → IsFilter IsInner (tokens.Sign s.Open ∷ tokens.Word w.Where ∷ ts) p rest

-- The brackets of a FILTER behind the one that opens them.
abbrev InBrackets : Derivation syntax.Predicate → Derivation syntax.Predicate
InBrackets IsInner ts p rest = IsFilter IsInner (tokens.Sign s.Open ∷ ts) p rest

-- What is read before the closing bracket of a FILTER.
abbrev closed_at : Reader syntax.Predicate → Reader syntax.Predicate
closed_at read ts = read ts >>= λ p. found_or_unexpected (after (is_sign s.Close)) p.1 >>= λ rest. Ok (p.0, rest)

-- What is read behind the opening bracket of a FILTER, where a level of brackets is left or not.
abbrev in_brackets : Bool → Reader syntax.Predicate → Reader syntax.Predicate
in_brackets left read ts = cond left (found_or_unexpected (after (is_word w.Where)) ts >>= λ a. closed_at read a) (over ts)

-- What is read behind the word FILTER.
abbrev filter_with : Bool → Reader syntax.Predicate → Reader syntax.Predicate
filter_with left read ts = found_or_unexpected (after (is_sign s.Open)) ts >>= λ a. in_brackets left read a

-- What stands in the brackets of a FILTER, where something can stand there.
phrase_in_brackets : {IsInner : Derivation syntax.Predicate} → Phrase IsInner → Phrase (InBrackets IsInner)
phrase_in_brackets {IsInner} phrase =
    phrase_behind {Q = Closed IsInner} {R = InBrackets IsInner} (tokens.Word w.Where)
    (λ us vs p q. IsFilter.brackets q) (phrase_closed phrase)

-- What is read behind the bracket of a FILTER.
in_brackets_v : {wide : Bool} {IsInner : Derivation syntax.Predicate} (left : Bool) (read : Reader syntax.Predicate)
    → Phrase IsInner → Viable false wide IsInner read
    → Viable false wide (InBrackets IsInner) (λ a. in_brackets left read a)
in_brackets_v {IsInner = IsInner} true read phrase v =
    viable_loose (viable_found_or_stuck {strict = false} {Q = Closed IsInner} {R = InBrackets IsInner} (is_word w.Where)
    (tokens.Word w.Where) (after_word_is w.Where) (λ i. refl) (λ us vs p q. IsFilter.brackets q)
    (λ b. closed_at read b) (phrase_closed phrase) (viable_closed IsInner read v))
in_brackets_v false read phrase v = viable_over (λ i. phrase_in_brackets phrase)

-- What is read behind the word FILTER, where something can stand in its brackets.
filter_v : {wide : Bool} {IsInner : Derivation syntax.Predicate} (left : Bool) (read : Reader syntax.Predicate)
    → Phrase IsInner → Viable false wide IsInner read → Viable true wide (IsFilter IsInner) (filter_with left read)
filter_v {IsInner = IsInner} left read phrase v =
    viable_found_or_stuck {strict = false} {Q = InBrackets IsInner} (is_sign s.Open) (tokens.Sign s.Open)
    (after_sign_is s.Open) (λ i. refl) (λ us vs p q. q) (λ a. in_brackets left read a) (phrase_in_brackets phrase)
    (in_brackets_v left read phrase v)

-- ---- set functions

-- What a set function and these tokens behind it derive.
abbrev AfterAggregate : Bool → Derivation syntax.Predicate → Aggregate → Derivation syntax.SetFunction
AfterAggregate wide IsInner f us x ws =
    (vs : List Token) → IsAggregate vs f us → IsFunction (limits_of wide) IsInner vs x ws

-- A set function and its FILTER, behind the word of that.
abbrev filtered_at : Bool → Reader syntax.Predicate → Aggregate → Reader syntax.SetFunction
filtered_at left read f ts = filter_with left read ts >>= λ p. Ok (over_filtered f p.0, p.1)

-- What is read behind a set function, where a level of brackets is left or not.
abbrev function_with : Bool → Reader syntax.Predicate → Aggregate → Reader syntax.SetFunction
function_with left read f ts = choose (after (is_word w.Filter) ts) (Ok (over_all f, ts)) (λ a. filtered_at left read f a)

-- Where no FILTER stands behind a set function, it goes over all.
plain_v : (wide : Bool) (IsInner : Derivation syntax.Predicate) (f : Aggregate)
    → Viable true wide (AfterAggregate wide IsInner f) (λ ts. Ok (over_all f, ts))
plain_v wide IsInner f = viable_ok (over_all f) (λ ts vs i. IsFunction.plain i)

-- Behind a set function, where something can stand in the brackets of its FILTER.
filtered_v : (wide : Bool) (IsInner : Derivation syntax.Predicate) (left : Bool) (read : Reader syntax.Predicate)
    (f : Aggregate) → Phrase IsInner → Viable false wide IsInner read
    → Viable true wide (AfterAggregate wide IsInner f) (function_with left read f)
filtered_v wide IsInner left read f phrase v =
    viable_word w.Filter (λ ts. Ok (over_all f, ts)) (λ a. filtered_at left read f a) (plain_v wide IsInner f)
    (viable_made (filter_with left read) (λ p. over_filtered f p) filtered (filter_v left read phrase v)) where
      filtered : (us ws : List Token) (p : syntax.Predicate) → IsFilter IsInner us p ws
          → AfterAggregate wide IsInner f (tokens.Word w.Filter ∷ us) (over_filtered f p) ws
      filtered _ _ _ (IsFilter.brackets q) = λ vs i. IsFunction.filtered i q

-- A fault where a set function was to be read.
abbrev failed : Stop → Result (syntax.SetFunction × List Token) Stop
failed e = Err e

-- Behind FILTER, where no level is left, a bracket is expected, and is too much.
no_filter : (read : Reader syntax.Predicate) (f : Aggregate) (ts : List Token)
    → (filtered_at false read f ts ≡ failed (halts.unexpected (length ts)))
    ⊎ ((n : ℕ) × (filtered_at false read f ts ≡ failed (halts.over_limit n)))
no_filter read f ts = of_bracket (after (is_sign s.Open) ts) where
  bracket : Option (List Token) → Result (syntax.Predicate × List Token) Stop
  bracket o = choose o (unexpected_at ts) (λ x. Ok x) >>= λ a. over a

  read_of : Option (List Token) → Result (syntax.SetFunction × List Token) Stop
  read_of o = bracket o >>= λ p. Ok (over_filtered f p.0, p.1)

  of_bracket : (o : Option (List Token))
      → (read_of o ≡ failed (halts.unexpected (length ts))) ⊎ ((n : ℕ) × (read_of o ≡ failed (halts.over_limit n)))
  of_bracket None = inl refl
  of_bracket (Some r) = inr (length r, refl)

-- Behind a set function, where nothing can stand in the brackets of a FILTER: the tokens before
-- FILTER go on.
unfiltered_v : (IsInner : Derivation syntax.Predicate) (read : Reader syntax.Predicate) (f : Aggregate)
    → Viable true false (AfterAggregate false IsInner f) (function_with false read f)
unfiltered_v IsInner read f = record {
  goes = λ ts x rest d. elim (choose_ok (after (is_word w.Filter) ts) (Ok (over_all f, ts)) filtered (x, rest) d) [
    | inl h ↦ (plain_v false IsInner f).goes ts x rest h.1
    | inr h ↦ absurd (elim (no_filter read f h.0) [
      | inl i ↦ (let k = h.2 in cc)
      | inr i ↦ (let k = h.2 in let j = i.1 in cc)
    ])
  ];
  stops = λ ts e d c. elim (choose_err (after (is_word w.Filter) ts) (Ok (over_all f, ts)) filtered e d) [
    | inl h ↦ absurd cc
    | inr h ↦ subst (λ us. Stops e us) (sym (after_word_is w.Filter ts h.0 h.1)) (stops_at h.0 e h.2 c)
  ];
} where
  filtered : Reader syntax.SetFunction
  filtered a = filtered_at false read f a

  Stops : Stop → List Token → Type 0
  Stops e us = GoesOn (AfterAggregate false IsInner f) (Reaches false true e) us

  before : (us : List Token) → Stops (halts.unexpected (length us)) (tokens.Word w.Filter ∷ us)
  before us = record {
    front = [];
    back = tokens.Word w.Filter ∷ us;
    is = refl;
    reaches = inr (Uncounted.token refl);
    behind = [];
    value = over_all f;
    derived = λ other vs i. IsFunction.plain i;
  }

  stops_at : (us : List Token) (e : Stop) → filtered us ≡ Err e → Claimed false e
      → Stops e (tokens.Word w.Filter ∷ us)
  stops_at us e d c = elim (no_filter read f us) [
    | inl i ↦ (let k : halts.unexpected (length us) ≡ e = cc in
        subst (λ m. Stops m (tokens.Word w.Filter ∷ us)) k (before us))
    | inr i ↦ absurd (let j = i.1 in let k : halts.over_limit i.0 ≡ e = cc in subst (Claimed false) (sym k) c)
  ]

-- Behind a set function.
after_aggregate_v : (wide : Bool) (IsInner : Derivation syntax.Predicate) (left : Bool) (read : Reader syntax.Predicate)
    (f : Aggregate) → (left ≡ true → Phrase IsInner) → (wide ≡ true → Phrase IsInner)
    → Viable false wide IsInner read → Viable true wide (AfterAggregate wide IsInner f) (function_with left read f)
after_aggregate_v true IsInner left read f phrase wider v = filtered_v true IsInner left read f (wider refl) v
after_aggregate_v false IsInner true read f phrase wider v = filtered_v false IsInner true read f (phrase refl) v
after_aggregate_v false IsInner false read f phrase wider v = unfiltered_v IsInner read f

-- ---- expressions

-- A name.
abbrev pub a_name : List ℕ
a_name = codes "a"

-- A bare name is an expression.
abbrev pub expression_phrase : (wide : Bool) (IsInner : Derivation syntax.Predicate)
    → Phrase (IsExpression (limits_of wide) IsInner)
expression_phrase wide IsInner = record {
  tokens = tokens.Name a_name ∷ [];
  value = syntax.Expression.name a_name;
  derived = λ other. IsExpression.name;
}

-- The names behind GROUPING make an expression.
grouping_of : (wide : Bool) (IsInner : Derivation syntax.Predicate) (us vs : List Token) (ns : List (List ℕ))
    → Arguments wide us ns vs
    → IsExpression (limits_of wide) IsInner (tokens.Word w.Grouping ∷ us) (syntax.Expression.grouping ns) vs
grouping_of wide IsInner _ _ _ (Enclosed.brackets (Listed.parts IsName.name others)) =
    IsExpression.grouping others.0 (omega (arith, others.1, some_arguments wide))

-- A token with which an expression begins goes on to one.
pub expression_part : (wide : Bool) (IsInner : Derivation syntax.Predicate)
    → TellsPart (IsExpression (limits_of wide) IsInner) begins_expression
unfolding begins_expression
expression_part wide IsInner = record { at_end = refl; at_token = at_token } where
  Expression : Derivation syntax.Expression
  Expression = IsExpression (limits_of wide) IsInner

  Begins : Token → Type 0
  Begins t = BeginsPart Expression t

  -- A word in front of a name in brackets.
  bracketed : {t : Token} → counted t ≡ true → (x : syntax.Expression)
      → ((other : List Token) → Expression (t ∷ tokens.Sign s.Open ∷ tokens.Name a_name ∷ tokens.Sign s.Close ∷ other) x other)
      → Begins t
  bracketed c x d = record {
    counts = c;
    behind = tokens.Sign s.Open ∷ tokens.Name a_name ∷ tokens.Sign s.Close ∷ [];
    value = x;
    derived = d;
  }

  -- A set function that goes over all.
  all : Aggregate → syntax.Expression
  all f = syntax.Expression.function (over_all f)

  all_of : {ts rest : List Token} {f : Aggregate} → IsAggregate ts f rest → Expression ts (all f) rest
  all_of i = IsExpression.function (IsFunction.plain i)

  rows : Begins (tokens.Word w.Count)
  rows = record {
    counts = refl;
    behind = tokens.Sign s.Open ∷ tokens.Sign s.Star ∷ tokens.Sign s.Close ∷ [];
    value = all aggregates.CountRows;
    derived = λ other. all_of IsAggregate.count_rows;
  }

  at_token : (t : Token) (us : List Token) → begins_expression (t ∷ us) ≡ true → Begins t
  at_token (tokens.Name n) us e =
      record { counts = refl; behind = []; value = syntax.Expression.name n; derived = λ other. IsExpression.name }
  at_token (tokens.Word w.Grouping) us e =
      bracketed refl (syntax.Expression.grouping (a_name ∷ [])) (λ other. IsExpression.grouping IsRepeated.none (some_arguments wide))
  at_token (tokens.Word w.Count) us e = rows
  at_token (tokens.Word w.Sum) us e = bracketed refl (all (aggregates.Sum a_name)) (λ other. all_of IsAggregate.sum)
  at_token (tokens.Word w.Min) us e = bracketed refl (all (aggregates.Min a_name)) (λ other. all_of IsAggregate.min)
  at_token (tokens.Word w.Max) us e = bracketed refl (all (aggregates.Max a_name)) (λ other. all_of IsAggregate.max)
  at_token (tokens.Word w.Avg) us e = bracketed refl (all (aggregates.Avg a_name)) (λ other. all_of IsAggregate.avg)
  at_token t us e = absurd cc

module _ (wide : Bool) (IsInner : Derivation syntax.Predicate) (inside : Inside) (inside_v : InsideViable wide IsInner inside) where
  -- An expression within the limits.
  abbrev Expression : Derivation syntax.Expression
  Expression = IsExpression (limits_of wide) IsInner

  -- A set function, and its FILTER.
  function_v : Viable true wide (IsFunction (limits_of wide) IsInner) (function_at inside)
  unfolding function_at filter_at
  function_v =
      viable_bind (AfterAggregate wide IsInner) aggregate_at (λ f us. function_with inside.has_level inside.read f us)
      (λ us vs ws f x i q. q us i)
      (λ f. record { tokens = []; value = over_all f; derived = λ other vs i. IsFunction.plain i }) aggregate_v
      (λ f. after_aggregate_v wide IsInner inside.has_level inside.read f inside_v.phrase inside_v.wide_phrase inside_v.read)

  -- A set function as an expression, and the names of a GROUPING.
  abbrev called_at : Reader syntax.Expression
  called_at ts = function_at inside ts >>= λ f. Ok (syntax.Expression.function f.0, f.1)

  abbrev grouping_at : Reader syntax.Expression
  grouping_at ts = arguments_at inside.limits.arguments ts >>= λ ns. Ok (syntax.Expression.grouping ns.0, ns.1)

  -- The names behind GROUPING.
  names_v : Viable true wide (Arguments wide) (arguments_at inside.limits.arguments)
  names_v =
      subst (λ l. Viable true wide (Arguments wide) (arguments_at l.arguments)) (sym inside_v.limits_are) (arguments_v wide)

  -- An expression that is no name.
  worded_v : Viable true wide Expression (λ ts. choose (after (is_word w.Grouping) ts) (called_at ts) (λ a. grouping_at a))
  worded_v =
      viable_word w.Grouping (λ ts. called_at ts) (λ a. grouping_at a)
      (viable_made (function_at inside) (λ f. syntax.Expression.function f) (λ us vs f i. IsExpression.function i) function_v)
      (viable_made (arguments_at inside.limits.arguments) (λ ns. syntax.Expression.grouping ns) (grouping_of wide IsInner) names_v)

  -- A name is an expression, with which nothing else is taken.
  named : (us vs ws : List Token) (n : List ℕ) (x : syntax.Expression) → IsName us n vs
      → Exactly (syntax.Expression.name n) vs x ws → Expression us x ws
  named _ vs ws n x IsName.name q = subst (λ z. Expression (tokens.Name n ∷ vs) z ws) q.1
      (subst (λ zs. Expression (tokens.Name n ∷ vs) (syntax.Expression.name n) zs) q.0 IsExpression.name)

  -- An expression.
  pub expression_v : Viable true wide (IsExpression (limits_of wide) IsInner) (expression_at inside)
  unfolding expression_at
  expression_v =
      viable_front {Q = λ n. Exactly (syntax.Expression.name n)} name_at name_finds named
      (λ ts. choose (after (is_word w.Grouping) ts) (called_at ts) (λ a. grouping_at a))
      (λ n us. Ok (syntax.Expression.name n, us)) worded_v (λ n. exactly (syntax.Expression.name n))
