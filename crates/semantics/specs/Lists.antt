-- A list without repeats, and a list in order. Which elements stay of a list with repeats is said
-- by `kept_law` of query_resolve.
use Rattle.std.specs.Ordering.{is_gt}
use Rattle.std.specs.Prelude.{Bool, not, List, [], ◌∷◌, filter, if◌then◌else◌}
use Rattle.std.specs.declared.cmp.Ordering.{Ordering}

-- The elements of a list without repeats, each where it first stands.
abbrev pub distinct : {A : Type 0} → (A → A → Bool) → List A → List A
distinct same [] = []
distinct same (x ∷ xs) = x ∷ filter (λ y. not (same x y)) (distinct same xs)

-- The list with x in it, before the first element that is not before x.
abbrev pub inserted_by : {X : Type 0} → (X → X → Ordering) → X → List X → List X
inserted_by order x [] = x ∷ []
inserted_by order x (y ∷ ys) = if is_gt (order x y) then y ∷ inserted_by order x ys else x ∷ y ∷ ys

-- The list in order. It does not matter how it is sorted: of the rows of a report `order_law` of
-- report_rows says that no other list has the same rows and ascends.
abbrev pub sorted_by : {X : Type 0} → (X → X → Ordering) → List X → List X
sorted_by order [] = []
sorted_by order (x ∷ xs) = inserted_by order x (sorted_by order xs)
