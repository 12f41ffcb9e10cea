-- Units, sets and groups that derive from tokens are read.
use Rattle.std.proofs.Common.{arith, ◌≤◌, ◌≡◌, ℕ, zero, suc, List, ◌∷◌, Bool, Some, None, Ok, refl}
use Rattle.semantics.specs.declared.token.Token.{Token}
use Rattle.semantics.specs.declared.token.Token.TheVariants as tokens
use Rattle.semantics.specs.declared.token.Word.TheVariants as w
use Rattle.semantics.specs.declared.token.Sign.TheVariants as s
use Rattle.semantics.specs.Syntax.{GroupingElement, sets, element_forms}
use Rattle.query_parser.specs.Inside.Fronts.{is_word, is_sign, after}
use Rattle.query_parser.specs.Inside.Steps.{Reader, found_or_unexpected, name_at, begins_name}
use Rattle.query_parser.specs.Inside.PredicateSteps.{any_front}
use Rattle.semantics.specs.Leaves.{Derivation, IsRepeated, IsName}
use Rattle.query_parser.proofs.CompleteLists.{Shrinks, repeated_short, unlimited_c}
use Rattle.query_parser.proofs.CompleteLeaves.{name_c, name_short}
use Rattle.query_parser.specs.Inside.GroupSteps.{enclosed_at, begins_unit, unit_at, units_at, nothing_at, set_at, element_at, sets_at, group_at}
use Rattle.semantics.specs.Grammar.{IsUnit, IsSet, IsElement, IsGroup}

-- Parts in brackets that are read whatever stands behind them, as many as there are.
enclosed_c : {A : Type 0} (begins : List Token → Bool) (P : Derivation A) (f : Reader A) → ((ts r : List Token) (x : A) → P ts x r → f ts ≡ Ok (x, r)) → Shrinks P
    → {ts mid r : List Token} {x : A} {xs : List A} → P ts x mid → IsRepeated (tokens.Sign s.Comma) P mid xs (tokens.Sign s.Close ∷ r)
    → enclosed_at begins f (tokens.Sign s.Open ∷ ts) ≡ Ok (x ∷ xs, r)
enclosed_c begins P f complete short {ts} {mid} {r} {x} {xs} p b =
    rw (complete ts mid x p, unlimited_c (tokens.Sign s.Comma) (is_sign s.Comma) begins P f (λ _. Unit {0}) refl (λ _. tt) (λ us v y q _. complete us v y q) short b tt refl) refl

-- ---- units and sets

no_name : (ts : List Token) → name_at (tokens.Sign s.Open ∷ ts) ≡ None
unfolding name_at
no_name ts = refl

name_front : (n : List ℕ) (r : List Token) → name_at (tokens.Name n ∷ r) ≡ Some (n, r)
unfolding name_at
name_front n r = refl

unit_c : (ts r : List Token) (ns : List (List ℕ)) → IsUnit ts ns r → unit_at ts ≡ Ok (ns, r)
unfolding unit_at
unit_c _ _ _ (IsUnit.column {n} {r}) = rw (name_front n r) refl
unit_c _ _ _ (IsUnit.columns {mid} {r} {n} {ns} b) =
    rw (no_name (tokens.Name n ∷ mid), enclosed_c begins_name IsName (found_or_unexpected name_at) name_c name_short (IsName.name {n = n} {r = mid}) b) refl

unit_short : Shrinks IsUnit
unit_short _ _ _ IsUnit.column = omega arith
unit_short _ _ _ (IsUnit.columns b) = omega (arith, repeated_short (tokens.Sign s.Comma) IsName name_short b)

units_c : {ts mid r : List Token} {u : List (List ℕ)} {us : List (List (List ℕ))} → IsUnit ts u mid → IsRepeated (tokens.Sign s.Comma) IsUnit mid us (tokens.Sign s.Close ∷ r)
    → units_at (tokens.Sign s.Open ∷ ts) ≡ Ok (u ∷ us, r)
unfolding units_at
units_c p b = enclosed_c begins_unit IsUnit unit_at unit_c unit_short p b

unit_some : {ts r : List Token} {ns : List (List ℕ)} → IsUnit ts ns r → nothing_at ts ≡ None
unfolding nothing_at
unit_some IsUnit.column = refl
unit_some (IsUnit.columns b) = refl

nothing_c : (r : List Token) → nothing_at (tokens.Sign s.Open ∷ tokens.Sign s.Close ∷ r) ≡ Some r
unfolding nothing_at
nothing_c r = refl

set_c : {ts r : List Token} {ns : List (List ℕ)} → IsSet ts ns r → set_at ts ≡ Ok (ns, r)
unfolding set_at
set_c (IsSet.none {r}) = rw (nothing_c r) refl
set_c (IsSet.unit {ts} {r} {ns} p) = rw (unit_some p, unit_c ts r ns p) refl

set_short : Shrinks IsSet
set_short _ _ _ IsSet.none = omega arith
set_short _ _ _ (IsSet.unit {ts} {r} {ns} p) = unit_short ts r ns p

-- No set begins with ROLLUP, CUBE or GROUPING.
record BeginsSet (ts : List Token) : Type 0 where
  no_rollup : after (is_word w.Rollup) ts ≡ None
  no_cube : after (is_word w.Cube) ts ≡ None
  no_grouping : after (is_word w.Grouping) ts ≡ None

set_begins : {ts r : List Token} {ns : List (List ℕ)} → IsSet ts ns r → BeginsSet ts
set_begins IsSet.none = record { no_rollup = refl; no_cube = refl; no_grouping = refl }
set_begins (IsSet.unit IsUnit.column) = record { no_rollup = refl; no_cube = refl; no_grouping = refl }
set_begins (IsSet.unit (IsUnit.columns b)) = record { no_rollup = refl; no_cube = refl; no_grouping = refl }

-- ---- groups

-- What reads the bracketed elements behind GROUPING.
abbrev ReadsSets : Derivation GroupingElement → Reader GroupingElement → Type 0
ReadsSets IsInner nested = (ts mid r : List Token) (g : GroupingElement) (gs : List GroupingElement) → IsInner ts g mid → IsRepeated (tokens.Sign s.Comma) IsInner mid gs (tokens.Sign s.Close ∷ r)
    → nested (tokens.Word w.Sets ∷ tokens.Sign s.Open ∷ ts) ≡ Ok (sets (element_forms (g ∷ gs)), r)

element_c : (IsInner : Derivation GroupingElement) (nested : Reader GroupingElement) → ReadsSets IsInner nested → {ts r : List Token} {g : GroupingElement} → IsElement IsInner ts g r → element_at nested ts ≡ Ok (g, r)
unfolding element_at
element_c IsInner nested reads (IsElement.set p) = rw ((set_begins p).no_rollup, (set_begins p).no_cube, (set_begins p).no_grouping, set_c p) refl
element_c IsInner nested reads (IsElement.rollup p b) = rw (units_c p b) refl
element_c IsInner nested reads (IsElement.cube p b) = rw (units_c p b) refl
element_c IsInner nested reads (IsElement.sets {ts} {mid} {r} {g} {gs} p b) = rw (reads ts mid r g gs p b) refl

-- No element begins with DISTINCT, since that is no name.
element_begins : (IsInner : Derivation GroupingElement) {ts r : List Token} {g : GroupingElement} → IsElement IsInner ts g r → after (is_word w.Distinct) ts ≡ None
element_begins IsInner (IsElement.set IsSet.none) = refl
element_begins IsInner (IsElement.set (IsSet.unit IsUnit.column)) = refl
element_begins IsInner (IsElement.set (IsSet.unit (IsUnit.columns b))) = refl
element_begins IsInner (IsElement.rollup p b) = refl
element_begins IsInner (IsElement.cube p b) = refl
element_begins IsInner (IsElement.sets p b) = refl

pub group_begins : (n : ℕ) (ts r : List Token) (g : GroupingElement) → IsGroup n ts g r → after (is_word w.Distinct) ts ≡ None
unfolding IsGroup
group_begins zero ts r g p = element_begins (λ ts g r. ⊥) p
group_begins (suc n) ts r g p = element_begins (IsGroup n) p

element_short : (IsInner : Derivation GroupingElement) → Shrinks IsInner → Shrinks (IsElement IsInner)
element_short IsInner short _ _ _ (IsElement.set {ts} {r} {ns} p) = set_short ts r ns p
element_short IsInner short _ _ _ (IsElement.rollup {ts} {mid} {r} {u} {us} p b) = omega (arith, unit_short ts mid u p, repeated_short (tokens.Sign s.Comma) IsUnit unit_short b)
element_short IsInner short _ _ _ (IsElement.cube {ts} {mid} {r} {u} {us} p b) = omega (arith, unit_short ts mid u p, repeated_short (tokens.Sign s.Comma) IsUnit unit_short b)
element_short IsInner short _ _ _ (IsElement.sets {ts} {mid} {r} {g} {gs} p b) = omega (arith, short ts mid g p, repeated_short (tokens.Sign s.Comma) IsInner short b)

pub group_short : (n : ℕ) → Shrinks (IsGroup n)
unfolding IsGroup
group_short zero ts r g p = element_short (λ ts g r. ⊥) (λ ts r g p. absurd p) ts r g p
group_short (suc n) ts r g p = element_short (IsGroup n) (group_short n) ts r g p

sets_c : (n m : ℕ) → ((ts r : List Token) (g : GroupingElement) → IsGroup n ts g r → group_at m ts ≡ Ok (g, r)) → ReadsSets (IsGroup n) (sets_at (suc m))
unfolding sets_at
sets_c n m complete ts mid r g gs p b = rw (enclosed_c any_front (IsGroup n) (group_at m) complete (group_short n) p b) refl

-- A group that derives with at most n levels is read with more of them.
pub group_c : (n m : ℕ) → n ≤ m → (ts r : List Token) (g : GroupingElement) → IsGroup n ts g r → group_at m ts ≡ Ok (g, r)
unfolding IsGroup
group_c zero m few ts r g p = element_c (λ ts g r. ⊥) (sets_at m) (λ ts mid r g gs q b. absurd q) p
group_c (suc n) zero few ts r g p = absurd (omega arith)
group_c (suc n) (suc m) few ts r g p = let fewer : n ≤ m = omega arith in element_c (IsGroup n) (sets_at (suc m)) (sets_c n m (group_c n m fewer)) p
