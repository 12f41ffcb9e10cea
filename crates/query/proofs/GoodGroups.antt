-- Groups that sane tokens derive are good.
use Rattle.std.proofs.Common.{ℕ, zero, suc, List, [], ◌∷◌}
use Rattle.semantics.specs.declared.token.Token.TheVariants as tokens
use Rattle.semantics.specs.declared.token.Sign.TheVariants as s
use Rattle.semantics.specs.Syntax.{GroupingElement, element_forms}
use Rattle.semantics.specs.Leaves.{Derivation, IsName}
use Rattle.semantics.specs.Grammar.{IsUnit, IsSet, IsElement, IsGroup}
use Rattle.query.proofs.Good.{Each, GoodName, Deeper, GoodUnit, GoodSet, GoodGroup, GoodGroups}
use Rattle.query.proofs.GoodPredicates.{Leaves, repeated_leaves, name_leaves}

unit_leaves : Leaves (List (List ℕ)) IsUnit GoodUnit
unit_leaves _ _ _ IsUnit.column h = ((h.0, tt), h.1)
unit_leaves _ _ _ (IsUnit.columns tail) h =
    let others = repeated_leaves (List ℕ) (tokens.Sign s.Comma) IsName GoodName name_leaves tail h.1.1 in
    ((h.1.0, others.0), others.1.1)

unit_set : (ns : List (List ℕ)) → GoodUnit ns → GoodSet ns
unit_set [] g = absurd g
unit_set (n ∷ ns) g = g

set_leaves : Leaves (List (List ℕ)) IsSet GoodSet
set_leaves _ _ _ IsSet.none h = (tt, h.1.1)
set_leaves _ _ _ (IsSet.unit {ts} {r} {ns} d) h = let g = unit_leaves ts r ns d h in (unit_set ns g.0, g.1)

each_group : (n : ℕ) (gs : List GroupingElement) → Each (λ x. GoodGroup x n) gs → GoodGroups (element_forms gs) n
each_group n [] g = tt
each_group n (x ∷ gs) g = (g.0, each_group n gs g.1)

deeper_groups : (n : ℕ) (x : GroupingElement) (gs : List GroupingElement) → Deeper (GoodGroup x) n → Each (λ y. Deeper (GoodGroup y) n) gs → Deeper (GoodGroups (element_forms (x ∷ gs))) n
deeper_groups zero x gs d h = absurd d
deeper_groups (suc n) x gs d h = (d, each_group n gs h)

element_leaves : (n : ℕ) (IsInner : Derivation GroupingElement) → Leaves GroupingElement IsInner (λ x. Deeper (GoodGroup x) n) → Leaves GroupingElement (IsElement IsInner) (λ x. GoodGroup x n)
element_leaves n IsInner inner _ _ _ (IsElement.set {ts} {r} {ns} d) h = set_leaves ts r ns d h
element_leaves n IsInner inner _ _ _ (IsElement.rollup {ts} {mid} {u = u} d tail) h =
    let first = unit_leaves ts mid u d h.1.1 in
    let others = repeated_leaves (List (List ℕ)) (tokens.Sign s.Comma) IsUnit GoodUnit unit_leaves tail first.1 in
    ((first.0, others.0), others.1.1)
element_leaves n IsInner inner _ _ _ (IsElement.cube {ts} {mid} {u = u} d tail) h =
    let first = unit_leaves ts mid u d h.1.1 in
    let others = repeated_leaves (List (List ℕ)) (tokens.Sign s.Comma) IsUnit GoodUnit unit_leaves tail first.1 in
    ((first.0, others.0), others.1.1)
element_leaves n IsInner inner _ _ _ (IsElement.sets {ts} {mid} {g = x} {gs} d tail) h =
    let first = inner ts mid x d h.1.1.1 in
    let others = repeated_leaves GroupingElement (tokens.Sign s.Comma) IsInner (λ y. Deeper (GoodGroup y) n) inner tail first.1 in
    ((tt, deeper_groups n x gs first.0 others.0), others.1.1)

-- A group with at most n levels of GROUPING SETS is good for n.
pub group_leaves : (n : ℕ) → Leaves GroupingElement (IsGroup n) (λ x. GoodGroup x n)
unfolding IsGroup
group_leaves zero ts r x d h = element_leaves zero (λ ts g r. ⊥) (λ ts r x d h. absurd d) ts r x d h
group_leaves (suc n) ts r x d h = element_leaves (suc n) (IsGroup n) (group_leaves n) ts r x d h
