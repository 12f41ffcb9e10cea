-- What the functions of units, sets and groups read in front of tokens, one definition for each
-- function, as it computes it. No public contract rests on this file: what tokens derive is said in
-- Grammar.
use Rattle.std.specs.Prelude.{ℕ, zero, suc, Bool, true, false, List, ◌∷◌, length, Option, None, Ok, []}
use Rattle.semantics.specs.declared.token.Token.{Token}
use Rattle.semantics.specs.declared.token.Token.TheVariants as tokens
use Rattle.semantics.specs.declared.token.Word.TheVariants as w
use Rattle.semantics.specs.declared.token.Sign.TheVariants as s
use Rattle.query_lexer.specs.Options.{choose}
use Rattle.semantics.specs.Syntax.{GroupingElement, set, rollup, cube, sets, element_forms}
use Rattle.values.specs.Results.{◌>>=◌}
use Rattle.query_parser.specs.Inside.PredicateSteps.{any_front}
use Rattle.query_parser.specs.Inside.Fronts.{is_word, is_sign, after}
use Rattle.query_parser.specs.Inside.Steps.{Reader, over, found_or_unexpected, with_front, more, name_at, begins_name}

-- A part and those behind it, each behind its comma.
abbrev pub all_at : {A : Type 0} → (List Token → Bool) → Reader A → Reader (List A)
all_at begins part ts = part ts >>= λ first. with_front (first.0 ∷ []) (more (is_sign s.Comma) begins part (length first.1) first.1)

-- The same in brackets.
abbrev pub enclosed_at : {A : Type 0} → (List Token → Bool) → Reader A → Reader (List A)
enclosed_at begins part ts = found_or_unexpected (after (is_sign s.Open)) ts >>= λ a. all_at begins part a >>= λ all. found_or_unexpected (after (is_sign s.Close)) all.1 >>= λ rest. Ok (all.0, rest)

-- A unit.
unfoldable pub unit_at : Reader (List (List ℕ))
unit_at ts = choose (name_at ts) (enclosed_at begins_name (found_or_unexpected name_at) ts) (λ n. Ok (n.0 ∷ [], n.1))

-- Whether a unit begins in front of tokens.
unfoldable pub begins_unit : List Token → Bool
begins_unit [] = false
begins_unit (tokens.Name n ∷ ts) = true
begins_unit (tokens.Sign s.Open ∷ ts) = true
begins_unit (x ∷ ts) = false

-- The bracketed units behind ROLLUP or CUBE.
unfoldable pub units_at : Reader (List (List (List ℕ)))
units_at ts = enclosed_at begins_unit unit_at ts

-- What stands behind brackets round nothing.
unfoldable pub nothing_at : List Token → Option (List Token)
nothing_at ts = choose (after (is_sign s.Open) ts) None (λ a. after (is_sign s.Close) a)

-- A set.
unfoldable pub set_at : Reader (List (List ℕ))
set_at ts = choose (nothing_at ts) (unit_at ts) (λ rest. Ok ([], rest))

-- An element of GROUP BY, where nested reads what stands behind GROUPING.
unfoldable pub element_at : Reader GroupingElement → Reader GroupingElement
element_at nested ts = choose (after (is_word w.Rollup) ts)
    (choose (after (is_word w.Cube) ts)
    (choose (after (is_word w.Grouping) ts)
    (set_at ts >>= λ ns. Ok (set ns.0, ns.1))
    (λ a. nested a))
    (λ a. units_at a >>= λ us. Ok (cube us.0, us.1)))
    (λ a. units_at a >>= λ us. Ok (rollup us.0, us.1))

-- What stands behind GROUPING: SETS and its bracketed elements, with at most n levels of GROUPING
-- SETS in all.
unfoldable pub sets_at : ℕ → Reader GroupingElement
sets_at zero ts = over ts
sets_at (suc n) ts = found_or_unexpected (after (is_word w.Sets)) ts >>= λ a. enclosed_at any_front (element_at (sets_at n)) a >>= λ gs. Ok (sets (element_forms gs.0), gs.1)

-- An element of GROUP BY, with at most n levels of GROUPING SETS in one another.
abbrev pub group_at : ℕ → Reader GroupingElement
group_at n = element_at (sets_at n)
