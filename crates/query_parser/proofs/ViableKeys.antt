-- The readers of keys have the valid prefix property.
use Rattle.std.proofs.Common.{◌≡◌, Bool, true, false, List, [], ◌∷◌, Option, Some, None, Ok, refl}
use Rattle.std.specs.Prelude.{codes}
use Rattle.semantics.specs.declared.token.Token.{Token}
use Rattle.semantics.specs.declared.token.Token.TheVariants as tokens
use Rattle.semantics.specs.declared.token.Word.TheVariants as w
use Rattle.query_lexer.specs.Options.{choose}
use Rattle.semantics.specs.Syntax.{Expression, SortKey}
use Rattle.semantics.specs.Leaves.{Limits, language_limits, Derivation}
use Rattle.semantics.specs.Productions.{IsExpression, IsPredicate}
use Rattle.semantics.specs.Grammar.{IsDirection, IsNullOrdering, IsKey, IsOrderBy}
use Rattle.values.specs.Results.{◌>>=◌}
use Rattle.query_parser.specs.Inside.Fronts.{is_word, after}
use Rattle.query_parser.specs.Inside.Steps.{Reader, found_or_unexpected}
use Rattle.query_parser.specs.Inside.ExpressionSteps.{expression_at, begins_expression}
use Rattle.query_parser.specs.Inside.PredicateSteps.{inside_of}
use Rattle.query_parser.specs.Inside.GroupSteps.{all_at}
use Rattle.query_parser.specs.Inside.KeySteps.{direction_at, null_ordering_at, key_at, keys_at}
use Rattle.query_parser.proofs.Viable.{Phrase, Viable, Listed, viable_ok, viable_as, viable_same, viable_bind, viable_made}
use Rattle.query_parser.proofs.ViableLeaves.{limits_of, viable_word, found_or_stuck_word}
use Rattle.query_parser.proofs.ViableExpressions.{expression_v}
use Rattle.query_parser.proofs.ViablePredicates.{inside_v}
use Rattle.query_parser.proofs.ViableGroups.{All, all_phrase, all_v}

-- The expression of an item or a key.
abbrev pub Plain : Limits → Derivation Expression
Plain limits = IsExpression limits (IsPredicate limits limits.levels)

-- What reads it.
abbrev pub plain_at : Reader Expression
plain_at ts = expression_at (inside_of language_limits language_limits.levels) ts

pub plain_v : (wide : Bool) → Viable true wide (Plain (limits_of wide)) plain_at
plain_v true = expression_v true (IsPredicate (limits_of true) 65) (inside_of language_limits 64) (inside_v true 64)
plain_v false = expression_v false (IsPredicate language_limits 64) (inside_of language_limits 64) (inside_v false 64)

-- A direction, by what stands behind DESC and behind ASC.
abbrev direction_of : Option (List Token) → Option (List Token) → List Token → Bool × List Token
direction_of desc asc ts = choose desc (choose asc (false, ts) (λ r. (false, r))) (λ r. (true, r))

-- What is read behind a direction, or none.
direction_way : {A : Type 0} (g : Bool → Reader A) (ts : List Token)
    → g (direction_at ts).0 (direction_at ts).1
    ≡ choose (after (is_word w.Desc) ts) (choose (after (is_word w.Asc) ts) (g false ts) (g false)) (g true)
unfolding direction_at
direction_way {A} g ts = of_way (after (is_word w.Desc) ts) (after (is_word w.Asc) ts) where
  of_way : (o p : Option (List Token))
      → g (direction_of o p ts).0 (direction_of o p ts).1 ≡ choose o (choose p (g false ts) (g false)) (g true)
  of_way None None = refl
  of_way None (Some r) = refl
  of_way (Some r) p = refl

-- LAST, which puts NULL last.
abbrev last_at : Reader Bool
last_at ts = found_or_unexpected (after (is_word w.Last)) ts >>= λ r. Ok (false, r)

-- FIRST or LAST behind NULLS.
abbrev first_or_last_at : Reader Bool
first_or_last_at ts = choose (after (is_word w.First) ts) (last_at ts) (λ r. Ok (true, r))

-- Where NULL is put.
null_ordering_v : {wide : Bool} (d : Bool) → Viable true wide (IsNullOrdering d) (null_ordering_at d)
unfolding null_ordering_at
null_ordering_v d =
    viable_word w.Nulls (λ ts. Ok (d, ts)) first_or_last_at (viable_ok d (λ ts. IsNullOrdering.none))
    (viable_word w.First last_at (λ r. Ok (true, r))
    (found_or_stuck_word w.Last (λ r. Ok (false, r))
    record { tokens = []; value = false; derived = λ other. IsNullOrdering.last }
    (viable_ok false (λ ts. IsNullOrdering.last))) (viable_ok true (λ ts. IsNullOrdering.first)))

-- A key of an expression that was read.
abbrev KeyBehind : Limits → Expression → Derivation SortKey
KeyBehind limits e us k ws = (vs : List Token) → Plain limits vs e us → IsKey limits vs k ws

-- A key of an expression and a direction that were read.
abbrev KeyEnd : Limits → Expression → Bool → Derivation SortKey
KeyEnd limits e d us k ws = (ts vs : List Token) → Plain limits vs e ts → IsDirection ts d us → IsKey limits vs k ws

-- A key of these parts.
abbrev key_of : Expression → Bool → Bool → SortKey
key_of e d n = record { expression = e; descending = d; nulls_first = n }

-- What is read behind the direction of a key.
abbrev key_end : Expression → Bool → Reader SortKey
key_end e d us = null_ordering_at d us >>= λ n. Ok (key_of e d n.0, n.1)

key_end_v : (wide : Bool) (e : Expression) (d : Bool) → Viable true wide (KeyEnd (limits_of wide) e d) (key_end e d)
key_end_v wide e d =
    viable_made (null_ordering_at d) (λ n. key_of e d n) (λ us ws n q ts vs p i. IsKey.key p i q) (null_ordering_v d)

-- What is read behind the expression of a key.
abbrev key_behind : Expression → Reader SortKey
key_behind e us = key_end e (direction_at us).0 (direction_at us).1

-- The same without DESC.
abbrev ascending_at : Expression → Reader SortKey
ascending_at e ts = choose (after (is_word w.Asc) ts) (key_end e false ts) (key_end e false)

key_behind_v : (wide : Bool) (e : Expression) → Viable true wide (KeyBehind (limits_of wide) e) (key_behind e)
key_behind_v wide e =
    viable_same (key_behind e) (λ ts. choose (after (is_word w.Desc) ts) (ascending_at e ts) (key_end e true))
    (direction_way (key_end e)) (viable_word w.Desc (ascending_at e) (key_end e true)
    (viable_word w.Asc (key_end e false) (key_end e false) none ascending) descending) where
      none : Viable true wide (KeyBehind (limits_of wide) e) (key_end e false)
      none = viable_as (λ us ws k q vs p. q us vs p IsDirection.none) (key_end_v wide e false)

      ascending : Viable true wide (λ us. KeyBehind (limits_of wide) e (tokens.Word w.Asc ∷ us)) (key_end e false)
      ascending = viable_as (λ us ws k q vs p. q _ vs p IsDirection.ascending) (key_end_v wide e false)

      descending : Viable true wide (λ us. KeyBehind (limits_of wide) e (tokens.Word w.Desc ∷ us)) (key_end e true)
      descending = viable_as (λ us ws k q vs p. q _ vs p IsDirection.descending) (key_end_v wide e true)

-- A key.
key_v : (wide : Bool) → Viable true wide (IsKey (limits_of wide)) (key_at language_limits)
unfolding key_at
key_v wide =
    viable_bind (KeyBehind (limits_of wide)) plain_at key_behind (λ us vs ws e k p q. q us p) plain (plain_v wide)
    (key_behind_v wide) where
      plain : (e : Expression) → Phrase (KeyBehind (limits_of wide) e)
      plain e = record {
        tokens = [];
        value = key_of e false false;
        derived = λ other vs p. IsKey.key p IsDirection.none IsNullOrdering.none;
      }

-- A name is a key.
key_phrase : (limits : Limits) → Phrase (IsKey limits)
key_phrase limits = record {
  tokens = tokens.Name (codes "a") ∷ [];
  value = key_of (Expression.name (codes "a")) false false;
  derived = λ other. IsKey.key IsExpression.name IsDirection.none IsNullOrdering.none;
}

-- The keys behind ORDER BY.
abbrev listed_keys_at : Reader (List SortKey)
listed_keys_at ts = all_at begins_expression (key_at language_limits) ts

-- The keys of ORDER BY, or none.
pub keys_v : (wide : Bool) → Viable true wide (IsOrderBy (limits_of wide)) (keys_at language_limits)
unfolding keys_at
keys_v wide =
    viable_word w.Order (λ ts. Ok ([], ts)) (λ a. found_or_unexpected (after (is_word w.By)) a >>= λ b. listed_keys_at b)
    (viable_ok [] (λ ts. IsOrderBy.none)) (found_or_stuck_word w.By listed_keys_at one
    (viable_as keys_of (all_v begins_expression (key_at language_limits) (key_v wide)))) where
      -- What derives keys behind ORDER BY.
      keys_of : (us vs : List Token) (ks : List SortKey) → All (IsKey (limits_of wide)) us ks vs
          → IsOrderBy (limits_of wide) (tokens.Word w.Order ∷ tokens.Word w.By ∷ us) ks vs
      keys_of _ _ _ (Listed.parts first others) = IsOrderBy.keys first others

      one : Phrase (λ us ks ws. IsOrderBy (limits_of wide) (tokens.Word w.Order ∷ tokens.Word w.By ∷ us) ks ws)
      one = let p = all_phrase (key_phrase (limits_of wide)) in
          record { tokens = p.tokens; value = p.value; derived = λ other. keys_of _ other p.value (p.derived other) }
