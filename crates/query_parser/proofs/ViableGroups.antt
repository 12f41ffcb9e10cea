-- The readers of units, sets and groups have the valid prefix property.
use Rattle.std.proofs.Common.{length, ◌≡◌, ℕ, zero, suc, Bool, true, false, List, [], ◌∷◌, ◌++◌, Ok, refl, subst}
use Rattle.std.specs.Prelude.{codes}
use Rattle.semantics.specs.declared.token.Token.{Token}
use Rattle.semantics.specs.declared.token.Token.TheVariants as tokens
use Rattle.semantics.specs.declared.token.Word.TheVariants as w
use Rattle.semantics.specs.declared.token.Sign.TheVariants as s
use Rattle.query_lexer.specs.Options.{choose}
use Rattle.semantics.specs.Syntax.{GroupingElement, set, rollup, cube, sets, element_forms}
use Rattle.query_parser.specs.Inside.Fronts.{is_word, is_sign, after}
use Rattle.query_parser.specs.Inside.Steps.{Reader, found_or_unexpected, more, name_at, begins_name}
use Rattle.semantics.specs.Leaves.{Derivation, IsRepeated, IsName}
use Rattle.semantics.specs.Grammar.{IsUnit, IsSet, IsElement, IsGroup}
use Rattle.values.specs.Results.{◌>>=◌}
use Rattle.query_parser.specs.Inside.PredicateSteps.{any_front}
use Rattle.query_parser.specs.Inside.GroupSteps.{all_at, enclosed_at, begins_unit, unit_at, units_at, nothing_at, set_at, element_at, sets_at, group_at}
use Rattle.query_parser.proofs.Heads.{after_word_is, after_sign_is}
use Rattle.query_parser.proofs.Viable.{Phrase, Viable, Listed, Closed, Enclosed, Exactly, exactly, phrase_listed, phrase_closed, viable_ok, viable_over, viable_as, viable_same, viable_loose, viable_made, viable_choose, viable_front, viable_all, viable_listed, viable_closed, viable_enclosed}
use Rattle.query_parser.proofs.ViableLeaves.{viable_word, found_or_stuck_word, name_finds, name_phrase, name_v}

-- ---- lists

-- A part and those behind it, each behind its comma.
abbrev pub All : {A : Type 0} → Derivation A → Derivation (List A)
All P = Listed P (IsRepeated (tokens.Sign s.Comma) P)

-- One part is a list.
pub all_phrase : {A : Type 0} {P : Derivation A} → Phrase P → Phrase (All P)
all_phrase p = phrase_listed (λ ts. IsRepeated.none) p

-- A list of parts, as many as there are.
pub all_v : {A : Type 0} {wide : Bool} {P : Derivation A} (b : List Token → Bool) (f : Reader A)
    → Viable true wide P f → Viable true wide (All P) (all_at b f)
all_v b f vf = viable_listed f (λ us. more (is_sign s.Comma) b f (length us) us) (λ ts. IsRepeated.none) vf
    (viable_all (is_sign s.Comma) (tokens.Sign s.Comma) b f (after_sign_is s.Comma) vf)

-- The same in brackets.
enclosed_v : {A : Type 0} {wide : Bool} {P : Derivation A} (b : List Token → Bool) (f : Reader A)
    → Phrase P → Viable true wide P f → Viable true wide (Enclosed (All P)) (enclosed_at b f)
enclosed_v b f phrase vf = viable_enclosed (all_at b f) (all_phrase phrase) (all_v b f vf)

-- ---- units and sets

-- Names.
abbrev names_at : Reader (List (List ℕ))
names_at ts = all_at begins_name (found_or_unexpected name_at) ts

names_v : {wide : Bool} → Viable true wide (All IsName) names_at
names_v = all_v begins_name (found_or_unexpected name_at) name_v

-- A name is a unit.
abbrev unit_phrase : Phrase IsUnit
unit_phrase = record { tokens = tokens.Name (codes "a") ∷ []; value = codes "a" ∷ []; derived = λ other. IsUnit.column }

-- A unit.
unit_v : {wide : Bool} → Viable true wide IsUnit unit_at
unfolding unit_at
unit_v =
    viable_front {Q = λ n. Exactly (n ∷ [])} name_at name_finds one
    (λ ts. enclosed_at begins_name (found_or_unexpected name_at) ts) (λ n us. Ok (n ∷ [], us))
    (viable_as columns (enclosed_v begins_name (found_or_unexpected name_at) name_phrase name_v)) (λ n. exactly (n ∷ [])) where
      column : {us vs : List Token} {n : List ℕ} → IsName us n vs → IsUnit us (n ∷ []) vs
      column IsName.name = IsUnit.column

      one : (us vs ws : List Token) (n : List ℕ) (y : List (List ℕ)) → IsName us n vs → Exactly (n ∷ []) vs y ws
          → IsUnit us y ws
      one us vs ws n y p q =
          subst (λ z. IsUnit us z ws) q.1 (subst (λ zs. IsUnit us (n ∷ []) zs) q.0 (column p))

      columns : (us vs : List Token) (ns : List (List ℕ)) → Enclosed (All IsName) us ns vs → IsUnit us ns vs
      columns _ _ _ (Enclosed.brackets (Listed.parts IsName.name others)) = IsUnit.columns others

-- The bracketed units behind ROLLUP or CUBE.
units_v : {wide : Bool} → Viable true wide (Enclosed (All IsUnit)) units_at
unfolding units_at
units_v = enclosed_v begins_unit unit_at unit_phrase unit_v

-- Names and their closing bracket.
abbrev closed_names_at : Reader (List (List ℕ))
closed_names_at ts = names_at ts >>= λ all. found_or_unexpected (after (is_sign s.Close)) all.1 >>= λ rest. Ok (all.0, rest)

-- A set of no names.
abbrev no_names : Reader (List (List ℕ))
no_names ts = Ok ([], ts)

-- A set behind its bracket.
abbrev behind_bracket_at : Reader (List (List ℕ))
behind_bracket_at ts = choose (after (is_sign s.Close) ts) (closed_names_at ts) no_names

-- A set, where its bracket is looked at first.
opened_at : Reader (List (List ℕ))
opened_at ts = choose (after (is_sign s.Open) ts) (unit_at ts) behind_bracket_at

set_opened : (ts : List Token) → set_at ts ≡ opened_at ts
unfolding set_at opened_at nothing_at unit_at name_at
set_opened [] = refl
set_opened (tokens.Sign s.Open ∷ ts) = refl
set_opened (t ∷ ts) = refl

-- What derives a set behind its bracket.
abbrev Opened : Derivation (List (List ℕ))
Opened ts ns rest = IsSet (tokens.Sign s.Open ∷ ts) ns rest

behind_bracket_v : {wide : Bool} → Viable true wide Opened behind_bracket_at
behind_bracket_v =
    viable_choose {Q = λ us x ws. Opened (tokens.Sign s.Close ∷ us) x ws} (is_sign s.Close) (tokens.Sign s.Close)
    (after_sign_is s.Close) (λ i. refl) (λ us vs x q. q) closed_names_at no_names
    (viable_as columns (viable_closed (All IsName) names_at names_v)) (viable_ok [] (λ ts. IsSet.none)) where
      columns : (us vs : List Token) (ns : List (List ℕ)) → Closed (All IsName) us ns vs → Opened us ns vs
      columns _ _ _ (Listed.parts IsName.name others) = IsSet.unit (IsUnit.columns others)

-- A set.
set_v : {wide : Bool} → Viable true wide IsSet set_at
unfolding opened_at
set_v =
    viable_same set_at opened_at set_opened
    (viable_choose {Q = Opened} (is_sign s.Open) (tokens.Sign s.Open) (after_sign_is s.Open) (λ i. refl)
    (λ us vs x q. q) unit_at behind_bracket_at (viable_as (λ us ws x q. IsSet.unit q) unit_v) behind_bracket_v)

-- ---- groups

-- What derives an element behind the word GROUPING.
abbrev Nested : Derivation GroupingElement → Derivation GroupingElement
Nested P ts x rest = P (tokens.Word w.Grouping ∷ ts) x rest

-- A set, as an element.
abbrev set_element_at : Reader GroupingElement
set_element_at ts = set_at ts >>= λ ns. Ok (set ns.0, ns.1)

-- What stands behind CUBE.
abbrev cube_at : Reader GroupingElement
cube_at ts = units_at ts >>= λ us. Ok (cube us.0, us.1)

-- What stands behind ROLLUP.
abbrev rollup_at : Reader GroupingElement
rollup_at ts = units_at ts >>= λ us. Ok (rollup us.0, us.1)

-- An element that is GROUPING SETS or a set.
abbrev sets_or_set_at : Reader GroupingElement → Reader GroupingElement
sets_or_set_at nested ts = choose (after (is_word w.Grouping) ts) (set_element_at ts) (λ a. nested a)

-- An element that is no ROLLUP.
abbrev no_rollup_at : Reader GroupingElement → Reader GroupingElement
no_rollup_at nested ts = choose (after (is_word w.Cube) ts) (sets_or_set_at nested ts) (λ a. cube_at a)

-- An element, where what is nested in it is viable.
element_v : {wide : Bool} {IsInner : Derivation GroupingElement} (nested : Reader GroupingElement)
    → Viable false wide (Nested (IsElement IsInner)) nested → Viable true wide (IsElement IsInner) (element_at nested)
unfolding element_at
element_v {wide} {IsInner} nested vn =
    viable_word w.Rollup (no_rollup_at nested) rollup_at
    (viable_word w.Cube (sets_or_set_at nested) cube_at
    (viable_choose {Q = Nested (IsElement IsInner)} (is_word w.Grouping) (tokens.Word w.Grouping)
    (after_word_is w.Grouping) (λ i. refl) (λ us vs x q. q) set_element_at nested
    (viable_made set_at (λ ns. set ns) (λ us vs ns q. IsElement.set q) set_v) vn)
    (viable_made units_at (λ us. cube us) cube_of units_v)) (viable_made units_at (λ us. rollup us) rollup_of units_v)
  where
    cube_of : (us vs : List Token) (x : List (List (List ℕ))) → Enclosed (All IsUnit) us x vs
        → IsElement IsInner (tokens.Word w.Cube ∷ us) (cube x) vs
    cube_of _ _ _ (Enclosed.brackets (Listed.parts unit others)) = IsElement.cube unit others

    rollup_of : (us vs : List Token) (x : List (List (List ℕ))) → Enclosed (All IsUnit) us x vs
        → IsElement IsInner (tokens.Word w.Rollup ∷ us) (rollup x) vs
    rollup_of _ _ _ (Enclosed.brackets (Listed.parts unit others)) = IsElement.rollup unit others

-- The tokens of a group: brackets round nothing.
abbrev group_tokens : List Token
group_tokens = tokens.Sign s.Open ∷ tokens.Sign s.Close ∷ []

pub group_phrase : (n : ℕ) → Phrase (IsGroup n)
unfolding IsGroup
group_phrase zero = record { tokens = group_tokens; value = set []; derived = λ other. IsElement.set IsSet.none }
group_phrase (suc n) = record { tokens = group_tokens; value = set []; derived = λ other. IsElement.set IsSet.none }

-- A group within some levels, where what is nested in it is viable.
group_of : {wide : Bool} (m : ℕ) (nested : Reader GroupingElement) → Viable false wide (Nested (IsGroup m)) nested
    → Viable true wide (IsGroup m) (element_at nested)
unfolding IsGroup
group_of zero nested vn = element_v nested vn
group_of (suc m) nested vn = element_v nested vn

-- What stands behind the words GROUPING SETS is viable, where a group within a level fewer is.
sets_behind : {wide : Bool} (m n : ℕ) → Viable true wide (IsGroup m) (group_at n)
    → Viable false wide (Nested (IsGroup (suc m))) (sets_at (suc n))
unfolding sets_at IsGroup
sets_behind m n vg =
    viable_loose (found_or_stuck_word {R = Nested (IsGroup (suc m))} w.Sets
    (λ a. enclosed_at any_front (group_at n) a >>= λ gs. Ok (sets (element_forms gs.0), gs.1)) one
    (viable_made (enclosed_at any_front (group_at n)) (λ gs. sets (element_forms gs)) listed
    (enclosed_v any_front (group_at n) (group_phrase m) vg))) where
      listed : (us vs : List Token) (gs : List GroupingElement) → Enclosed (All (IsGroup m)) us gs vs
          → Nested (IsGroup (suc m)) (tokens.Word w.Sets ∷ us) (sets (element_forms gs)) vs
      listed _ _ _ (Enclosed.brackets (Listed.parts group others)) = IsElement.sets group others

      one : Phrase (λ us x ws. Nested (IsGroup (suc m)) (tokens.Word w.Sets ∷ us) x ws)
      one = let p = phrase_closed (all_phrase (group_phrase m)) in
          record {
            tokens = tokens.Sign s.Open ∷ p.tokens;
            value = sets (element_forms p.value);
            derived = λ other. listed _ other p.value (Enclosed.brackets (p.derived other));
          }

-- How many levels of GROUPING SETS there may be within the limits in which a reader of n goes on:
-- one more within the wider ones.
abbrev pub sets_of : Bool → ℕ → ℕ
sets_of true n = suc n
sets_of false n = n

-- What stands behind GROUPING.
sets_v : (wide : Bool) (n : ℕ) → Viable false wide (Nested (IsGroup (sets_of wide n))) (sets_at n)
unfolding sets_at IsGroup
sets_v true zero = viable_over (λ i. record {
  tokens = tokens.Word w.Sets ∷ tokens.Sign s.Open ∷ (group_tokens ++ tokens.Sign s.Close ∷ []);
  value = sets (element_forms (set [] ∷ []));
  derived = λ other. IsElement.sets (IsElement.set IsSet.none) IsRepeated.none;
})
sets_v false zero = viable_over (λ i. absurd cc)
sets_v true (suc n) = sets_behind (suc n) n (group_of (suc n) (sets_at n) (sets_v true n))
sets_v false (suc n) = sets_behind n n (group_of n (sets_at n) (sets_v false n))

-- An element of GROUP BY, with at most n levels of GROUPING SETS in one another.
pub group_v : (wide : Bool) (n : ℕ) → Viable true wide (IsGroup (sets_of wide n)) (group_at n)
group_v wide n = group_of (sets_of wide n) (sets_at n) (sets_v wide n)
