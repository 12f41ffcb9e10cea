-- The readers of predicates have the valid prefix property.
use Rattle.std.proofs.Common.{length, ◌≡◌, ℕ, zero, suc, Bool, true, false, List, [], ◌∷◌, Ok, refl}
use Rattle.semantics.specs.declared.token.Token.{Token}
use Rattle.semantics.specs.declared.token.Token.TheVariants as tokens
use Rattle.semantics.specs.declared.token.Word.TheVariants as w
use Rattle.semantics.specs.declared.token.Sign.TheVariants as s
use Rattle.semantics.specs.Syntax.{Predicate, not_of, column}
use Rattle.query_parser.specs.Inside.Fronts.{is_word, is_sign, after}
use Rattle.query_parser.specs.Inside.Steps.{Reader, found_or_unexpected, more}
use Rattle.query_parser.specs.Inside.AtomSteps.{test_after, tested_atom_at}
use Rattle.query_parser.specs.Inside.ExpressionSteps.{Inside}
use Rattle.query_parser.specs.Inside.PredicateSteps.{test_at, negation_at, conjunction_at, disjunction_at, has_level, predicate_at, any_front, inside_of}
use Rattle.semantics.specs.Leaves.{language_limits, Derivation, IsRepeated}
use Rattle.semantics.specs.Productions.{IsAtom, IsPrimary, IsTest, IsNegation, IsConjunction, IsDisjunction, IsPredicate, conjunction_of, disjunction_of}
use Rattle.values.specs.Results.{◌>>=◌}
use Rattle.query_parser.proofs.Heads.{after_word_is, after_sign_is}
use Rattle.query_parser.proofs.Viable.{Phrase, Viable, viable_over, viable_loose, viable_as, viable_bind, viable_made, viable_choose, viable_found_or_stuck, viable_all}
use Rattle.query_parser.proofs.ViableLeaves.{limits_of, viable_word}
use Rattle.query_parser.proofs.ViableExpressions.{InsideViable, a_name}
use Rattle.query_parser.proofs.ViableAtoms.{AfterPrimary, test_after_v, tested_atom_v}

module _ (wide : Bool) (IsInner : Derivation Predicate) (inside : Inside) (inside_v : InsideViable wide IsInner inside) where
  -- A test within the limits.
  abbrev Test : Derivation Predicate
  Test = IsTest (limits_of wide) IsInner

  -- A test with NOT or without, within the limits.
  abbrev Negation : Derivation Predicate
  Negation = IsNegation (limits_of wide) IsInner

  -- Parts joined by AND, within the limits.
  abbrev Conjunction : Derivation Predicate
  Conjunction = IsConjunction (limits_of wide) IsInner

  -- Parts joined by OR, within the limits.
  abbrev Disjunction : Derivation Predicate
  Disjunction = IsDisjunction (limits_of wide) IsInner

  -- What derives as a test behind an opening bracket.
  abbrev AfterOpen : Derivation Predicate
  AfterOpen us p ws = Test (tokens.Sign s.Open ∷ us) p ws

  -- What derives as a test behind an opening bracket and the predicate there.
  abbrev AfterInner : Predicate → Derivation Predicate
  AfterInner p us q ws = (vs : List Token) → IsInner vs p us → AfterOpen vs q ws

  -- What derives behind the first part of an AND.
  abbrev AfterNegation : Predicate → Derivation Predicate
  AfterNegation p us q ws = (vs : List Token) → Negation vs p us → Conjunction vs q ws

  -- What derives behind the first part of an OR.
  abbrev AfterConjunction : Predicate → Derivation Predicate
  AfterConjunction p us q ws = (vs : List Token) → Conjunction vs p us → Disjunction vs q ws

  -- What is read behind a predicate in brackets.
  abbrev closed_at : Predicate → Reader Predicate
  closed_at p ts = found_or_unexpected (after (is_sign s.Close)) ts >>= λ b. test_after p b

  -- That is viable.
  closed_v : (p : Predicate) → Viable true wide (AfterInner p) (closed_at p)
  closed_v p =
      viable_found_or_stuck {Q = AfterPrimary wide IsInner inside inside_v p} (is_sign s.Close) (tokens.Sign s.Close)
      (after_sign_is s.Close) (λ i. refl) (λ us ws q k vs i. k (tokens.Sign s.Open ∷ vs) (IsPrimary.brackets i))
      (λ b. test_after p b) record { tokens = []; value = p; derived = λ other vs i. IsTest.plain i }
      (test_after_v wide IsInner inside inside_v p)

  -- What is read behind an opening bracket.
  abbrev opened_at : Reader Predicate
  opened_at ts = inside.read ts >>= λ p. closed_at p.0 p.1

  -- That is viable, where too much may be said at once.
  opened_v : Viable false wide AfterOpen opened_at
  opened_v =
      viable_bind AfterInner inside.read (λ p us. closed_at p us) (λ us vs ws p q i k. k us i) closing inside_v.read
      closed_v where
        closing : (p : Predicate) → Phrase (AfterInner p)
        closing p = record {
          tokens = tokens.Sign s.Close ∷ [];
          value = p;
          derived = λ other vs i. IsTest.plain (IsPrimary.brackets i);
        }

  -- A predicate in brackets or an atom, and its truth test, or none.
  test_v : Viable true wide Test (test_at inside)
  unfolding test_at
  test_v =
      viable_choose {strict = false} {Q = AfterOpen} (is_sign s.Open) (tokens.Sign s.Open) (after_sign_is s.Open)
      (λ i. refl) (λ us vs p q. q) (λ ts. tested_atom_at inside ts) (λ a. opened_at a)
      (tested_atom_v wide IsInner inside inside_v) opened_v

  -- A test with NOT or without.
  negation_v : Viable true wide Negation (negation_at inside)
  unfolding negation_at
  negation_v =
      viable_word w.Not (λ ts. test_at inside ts) (λ a. test_at inside a >>= λ p. Ok (not_of p.0, p.1))
      (viable_as (λ us ws p i. IsNegation.plain i) test_v)
      (viable_made (test_at inside) (λ p. not_of p) (λ us ws p i. IsNegation.not i) test_v)

  -- The further parts of an AND.
  abbrev negations_at : Reader (List Predicate)
  negations_at ts = more (is_word w.And) any_front (negation_at inside) (length ts) ts

  -- Those are viable.
  negations_v : Viable true wide (IsRepeated (tokens.Word w.And) Negation) negations_at
  negations_v =
      viable_all (is_word w.And) (tokens.Word w.And) any_front (negation_at inside) (after_word_is w.And) negation_v

  -- Parts joined by AND.
  conjunction_v : Viable true wide Conjunction (conjunction_at inside)
  unfolding conjunction_at
  conjunction_v =
      viable_bind AfterNegation (negation_at inside) (λ p us. negations_at us >>= λ ps. Ok (conjunction_of p ps.0, ps.1))
      (λ us vs ws p q i k. k us i)
      (λ p. record { tokens = []; value = p; derived = λ other vs i. IsConjunction.parts i IsRepeated.none }) negation_v
      (λ p. viable_made negations_at (λ ps. conjunction_of p ps) (λ us ws ps l vs i. IsConjunction.parts i l) negations_v)

  -- The further parts of an OR.
  abbrev conjunctions_at : Reader (List Predicate)
  conjunctions_at ts = more (is_word w.Or) any_front (conjunction_at inside) (length ts) ts

  -- Those are viable.
  conjunctions_v : Viable true wide (IsRepeated (tokens.Word w.Or) Conjunction) conjunctions_at
  conjunctions_v =
      viable_all (is_word w.Or) (tokens.Word w.Or) any_front (conjunction_at inside) (after_word_is w.Or) conjunction_v

  -- Parts joined by OR.
  pub disjunction_v : Viable true wide (IsDisjunction (limits_of wide) IsInner) (disjunction_at inside)
  unfolding disjunction_at
  disjunction_v =
      viable_bind AfterConjunction (conjunction_at inside)
      (λ p us. conjunctions_at us >>= λ ps. Ok (disjunction_of p ps.0, ps.1))
      (λ us vs ws p q i k. k us i)
      (λ p. record { tokens = []; value = p; derived = λ other vs i. IsDisjunction.parts i IsRepeated.none }) conjunction_v
      (λ p. viable_made conjunctions_at (λ ps. disjunction_of p ps)
      (λ us ws ps l vs i. IsDisjunction.parts i l) conjunctions_v)

-- How many levels there may be fewer than, within the limits in which a reader of n goes on: one
-- more within the wider ones.
abbrev pub level_of : Bool → ℕ → ℕ
level_of true n = suc n
level_of false n = n

-- A predicate within the limits in which a reader of n goes on.
abbrev pub IsWithin : Bool → ℕ → Derivation Predicate
IsWithin wide n = IsPredicate (limits_of wide) (level_of wide n)

-- A bare column is a predicate.
pub predicate_phrase : (wide : Bool) (n : ℕ) → Phrase (IsPredicate (limits_of wide) (suc n))
unfolding IsPredicate
predicate_phrase wide n = record {
  tokens = tokens.Name a_name ∷ [];
  value = column a_name;
  derived = λ other. of_test;
} where
  -- It is a test.
  test : {other : List Token}
      → IsTest (limits_of wide) (IsPredicate (limits_of wide) n) (tokens.Name a_name ∷ other) (column a_name) other
  test = IsTest.plain (IsPrimary.atom IsAtom.column)

  -- And so a predicate.
  of_test : {other : List Token} → IsPredicate (limits_of wide) (suc n) (tokens.Name a_name ∷ other) (column a_name) other
  of_test = IsDisjunction.parts (IsConjunction.parts (IsNegation.plain test) IsRepeated.none) IsRepeated.none

-- Within the wider limits something stands in brackets.
wide_level : (wide : Bool) (n : ℕ) → wide ≡ true → Phrase (IsWithin wide n)
wide_level true n e = predicate_phrase true n
wide_level false n e = absurd cc

-- And where a level is left.
some_level : (wide : Bool) (n : ℕ) → has_level n ≡ true → Phrase (IsWithin wide n)
unfolding has_level
some_level wide zero e = absurd cc
some_level true (suc n) e = predicate_phrase true (suc n)
some_level false (suc n) e = predicate_phrase false n

-- A predicate of some level is one whose brackets hold the next.
next_level : (wide : Bool) (n : ℕ) (ts rest : List Token) (p : Predicate)
    → IsDisjunction (limits_of wide) (IsWithin wide n) ts p rest → IsWithin wide (suc n) ts p rest
unfolding IsPredicate
next_level true n ts rest p i = i
next_level false n ts rest p i = i

-- What may stand in brackets, where its reader is viable.
inside_with : (wide : Bool) (n : ℕ) → Viable false wide (IsWithin wide n) (predicate_at language_limits n)
    → InsideViable wide (IsWithin wide n) (inside_of language_limits n)
inside_with wide n v = record { limits_are = refl; read = v; phrase = some_level wide n; wide_phrase = wide_level wide n }

-- Parts joined by OR where a level of brackets is left.
level_v : (wide : Bool) (n : ℕ) → Viable false wide (IsWithin wide n) (predicate_at language_limits n)
    → Viable true wide (IsWithin wide (suc n)) (disjunction_at (inside_of language_limits n))
level_v wide n v =
    viable_as (next_level wide n) (disjunction_v wide (IsWithin wide n) (inside_of language_limits n) (inside_with wide n v))

-- A predicate with fewer than n levels of brackets.
pub predicate_v : (wide : Bool) (n : ℕ)
    → Viable false wide (IsPredicate (limits_of wide) (level_of wide n)) (predicate_at language_limits n)
unfolding predicate_at
predicate_v wide zero = viable_over (wide_level wide zero)
predicate_v wide (suc n) = viable_loose (level_v wide n (predicate_v wide n))

-- What may stand in brackets where there may be fewer than n levels of them.
pub inside_v : (wide : Bool) (n : ℕ)
    → InsideViable wide (IsPredicate (limits_of wide) (level_of wide n)) (inside_of language_limits n)
inside_v wide n = inside_with wide n (predicate_v wide n)

-- A predicate for which a level is left: it takes a token before anything is too much.
pub predicate_strict_v : (wide : Bool) (n : ℕ)
    → Viable true wide (IsPredicate (limits_of wide) (level_of wide (suc n))) (predicate_at language_limits (suc n))
unfolding predicate_at
predicate_strict_v wide n = level_v wide n (predicate_v wide n)
