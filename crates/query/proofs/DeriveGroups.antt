-- The tokens of a good group derive it.
use Rattle.std.proofs.Common.{◌≡◌, ℕ, zero, suc, List, [], ◌∷◌, refl, ap, subst}
use Rattle.semantics.specs.declared.token.Token.{Token}
use Rattle.semantics.specs.declared.token.Token.TheVariants as tokens
use Rattle.semantics.specs.declared.token.Sign.TheVariants as s
use Rattle.semantics.specs.Syntax.{GroupingElement, GroupingElements, set, rollup, cube, sets, no_groups, group, element_forms}
use Rattle.semantics.specs.Leaves.{Derivation, IsRepeated, IsName}
use Rattle.semantics.specs.Grammar.{IsUnit, IsSet, IsElement, IsGroup}
use Rattle.query.proofs.Good.{Inhabited, GoodName, GoodUnit, GoodSet, GoodGroup, GoodGroups}
use Rattle.query.proofs.Onto.{others_onto, name_onto, unit_onto, group_onto, group_ontos}
use Rattle.query.proofs.DerivePredicates.{commas_derive, name_d}

-- ---- units and sets

unit_d : (ns : List (List ℕ)) (r : List Token) → GoodUnit ns → IsUnit (unit_onto ns r) ns r
unit_d [] r g = absurd g
unit_d (n ∷ []) r g = IsUnit.column
unit_d (n ∷ m ∷ ns) r g = IsUnit.columns (commas_derive IsName name_onto GoodName name_d (m ∷ ns) (tokens.Sign s.Close ∷ r) g.1)

set_d : (ns : List (List ℕ)) (r : List Token) → GoodSet ns → IsSet (unit_onto ns r) ns r
set_d [] r g = IsSet.none
set_d (n ∷ ns) r g = IsSet.unit (unit_d (n ∷ ns) r g)

rollup_d : (IsInner : Derivation GroupingElement) (us : List (List (List ℕ))) (r : List Token) → Inhabited GoodUnit us → IsElement IsInner (group_onto (rollup us) r) (rollup us) r
rollup_d IsInner [] r g = absurd g
rollup_d IsInner (u ∷ us) r g = IsElement.rollup (unit_d u _ g.0) (commas_derive IsUnit unit_onto GoodUnit unit_d us (tokens.Sign s.Close ∷ r) g.1)

cube_d : (IsInner : Derivation GroupingElement) (us : List (List (List ℕ))) (r : List Token) → Inhabited GoodUnit us → IsElement IsInner (group_onto (cube us) r) (cube us) r
cube_d IsInner [] r g = absurd g
cube_d IsInner (u ∷ us) r g = IsElement.cube (unit_d u _ g.0) (commas_derive IsUnit unit_onto GoodUnit unit_d us (tokens.Sign s.Close ∷ r) g.1)

-- ---- groups

-- What no level of GROUPING SETS makes a difference to.
at_any : (n : ℕ) (ts r : List Token) (x : GroupingElement) → ((IsInner : Derivation GroupingElement) → IsElement IsInner ts x r) → IsGroup n ts x r
unfolding IsGroup
at_any zero ts r x made = made (λ ts g r. ⊥)
at_any (suc n) ts r x made = made (IsGroup n)

at_next : (n : ℕ) (ts r : List Token) (x : GroupingElement) → IsElement (IsGroup n) ts x r → IsGroup (suc n) ts x r
unfolding IsGroup
at_next n ts r x made = made

abbrev listed : GroupingElements → List GroupingElement
listed no_groups = []
listed (group x gs) = x ∷ listed gs

listed_again : (gs : GroupingElements) → element_forms (listed gs) ≡ gs
listed_again no_groups = refl
listed_again (group x gs) = ap (λ (hs : GroupingElements). group x hs) (listed_again gs)

mutual
  pub group_d : (x : GroupingElement) (n : ℕ) (r : List Token) → GoodGroup x n → IsGroup n (group_onto x r) x r
  group_d (set ns) n r g = at_any n _ r (set ns) (λ IsInner. IsElement.set (set_d ns r g))
  group_d (rollup us) n r g = at_any n _ r (rollup us) (λ IsInner. rollup_d IsInner us r g)
  group_d (cube us) n r g = at_any n _ r (cube us) (λ IsInner. cube_d IsInner us r g)
  group_d (sets gs) zero r g = absurd g.1
  group_d (sets no_groups) (suc n) r g = absurd g.0
  group_d (sets (group x gs)) (suc n) r g =
      let ts : List Token = group_onto (sets (group x gs)) r in
      let made : IsElement (IsGroup n) ts (sets (group x (element_forms (listed gs)))) r = IsElement.sets (group_d x n _ g.1.0) (others_d gs n (tokens.Sign s.Close ∷ r) g.1.1) in
      at_next n ts r (sets (group x gs)) (subst (λ (hs : GroupingElements). IsElement (IsGroup n) ts (sets (group x hs)) r) (listed_again gs) made)

  others_d : (gs : GroupingElements) (n : ℕ) (r : List Token) → GoodGroups gs n → IsRepeated (tokens.Sign s.Comma) (IsGroup n) (others_onto (tokens.Sign s.Comma) (group_ontos gs) r) (listed gs) r
  others_d no_groups n r g = IsRepeated.none
  others_d (group x gs) n r g = IsRepeated.more (group_d x n _ g.0) (others_d gs n r g.1)
