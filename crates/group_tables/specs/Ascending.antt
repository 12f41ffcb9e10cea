-- When a list stands in an order.
use Rattle.std.specs.Prelude.{◌≡◌, false, ⊤, List, ◌∷◌, []}
use Rattle.std.specs.declared.cmp.Ordering.{Ordering}
use Rattle.std.specs.Ordering.{is_gt}
use Rattle.std.specs.List.{AllByRecursion}

-- ---- a list in order

-- Nothing of the list is before the first.
abbrev pub NoneBefore : {X : Type 0} → (X → X → Ordering) → X → List X → Type 0
NoneBefore order first xs = AllByRecursion (λ x. is_gt (order first x) ≡ false) xs

-- Nothing stands behind what it is before.
abbrev pub Ascends : {X : Type 0} → (X → X → Ordering) → List X → Type 0
Ascends order [] = ⊤
Ascends order (x ∷ xs) = NoneBefore order x xs × Ascends order xs
