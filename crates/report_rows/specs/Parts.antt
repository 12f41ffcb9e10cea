-- Lists that are made in parts, some of which may not have been made.
use Rattle.std.specs.Prelude.{◌≡◌, ⊤, ℕ, List, ◌∷◌, IfOk, take, drop, []}
use Rattle.std.specs.Global.{Vec}
use Rattle.std.specs.declared.alloc.AllocError.{AllocError}
use Rattle.std.specs.declared.result.Result.{Result}
use Rattle.std.specs.declared.result.Result.TheVariants.{Ok, Err}

-- The items of a part, and none where it was not made.
abbrev pub items_of : {X : Type 0} → Result (Vec X) AllocError → List X
items_of (Ok part) = part.items
items_of (Err e) = []

-- Each of the parts was made.
abbrev pub AreMade : {X : Type 0} → List (Result (Vec X) AllocError) → Type 0
AreMade [] = ⊤
AreMade (Ok part ∷ parts) = AreMade parts
AreMade (Err e ∷ parts) = ⊥

-- Each part that was made is of its part of a list, where the parts of the list stand one after the
-- other, have so many things each but perhaps the last, and are the whole list
abbrev pub AreOfParts : {X Y : Type 0} → (List X → List Y → Type 0) → ℕ → List X → List (Result (Vec Y) AllocError) → Type 0
AreOfParts IsOf size list [] = list ≡ []
AreOfParts IsOf size list (part ∷ parts) = IfOk part (λ made. IsOf (take size list) made.items) × AreOfParts IsOf size (drop size list) parts
