-- Lists, one after the other.
use Rattle.std.proofs.Common.{◌≡◌, ◌∙◌, ℕ, ◌+◌, ◌<◌, ◌≤◌, arith, Bool, true, false, ◌||◌, map, List, [], ◌∷◌, ◌++◌, length, drop, get_or, Result, Ok, Err, IfOk, refl, sym, ap, append_assoc}
use Rattle.std.proofs.lemmas.List.{append-nil, at_drop_all, at_drop_more}
use Rattle.std.proofs.lemmas.List.Elements.{filter_map-append}

-- What is appended, list by list.
pub ruleset appended = (filter_map-append, append_assoc)

-- A turn of a loop that appends what an element gives.
pub appended_turn : {X Y : Type 0} (f : X → List Y) (F : List X → List Y) → ((x : X) (xs : List X) → F (x ∷ xs) ≡ f x ++ F xs) → (xs : List X) (i : ℕ) (x : X) → i < length xs → x ≡ get_or xs i x → (old new total : List Y) → new ≡ old ++ f x → old ++ F (drop i xs) ≡ total → new ++ F (drop (i + 1) xs) ≡ total
appended_turn {X} {Y} f F cons xs i x below e old new total pushed told =
    ap (λ (ys : List Y). ys ++ F (drop (i + 1) xs)) pushed
    ∙ append_assoc old (f x) (F (drop (i + 1) xs))
    ∙ ap (λ (ys : List Y). old ++ ys) (sym (at_drop_more F xs i x below ∙ ap (λ (y : X). F (y ∷ drop (i + 1) xs)) (sym e) ∙ cons x (drop (i + 1) xs)))
    ∙ told

-- What an Ok holds, and what that comes to.
pub ok_same : {T E Y : Type 0} (r : Result T E) (f : T → Y) (a b : Y) → IfOk r (λ v. f v ≡ a) → a ≡ b → IfOk r (λ v. f v ≡ b)
ok_same (Ok v) f a b h e = h ∙ e
ok_same (Err x) f a b h e = tt

-- Anything or true is true.
pub or_true : (b : Bool) → (b || true) ≡ true
or_true true = refl
or_true false = refl

-- A list of one element.
pub only_one : {X : Type 0} (xs : List X) (x : X) → 1 ≤ length xs → length xs < 2 → x ≡ get_or xs 0 x → x ∷ [] ≡ xs
only_one [] x some few e = absurd (omega arith)
only_one {X} (y ∷ []) x some few e = ap (λ (z : X). z ∷ []) e
only_one (y ∷ z ∷ zs) x some few e = absurd (omega arith)

-- A loop that appends, at its end.
pub appended_end : {X Y : Type 0} (F : List X → List Y) → F [] ≡ [] → (xs : List X) (i : ℕ) → length xs ≤ i → (old total : List Y) → old ++ F (drop i xs) ≡ total → old ≡ total
appended_end {X} {Y} F nothing xs i past old total told = sym (append-nil old) ∙ ap (λ (ys : List Y). old ++ ys) (sym (at_drop_all F xs i past ∙ nothing)) ∙ told

-- One map after another.
pub map_twice : {X Y Z : Type 0} (g : Y → Z) (f : X → Y) (xs : List X) → map g (map f xs) ≡ map (λ x. g (f x)) xs
map_twice g f [] = refl
map_twice {X} {Y} {Z} g f (x ∷ xs) = ap (λ (zs : List Z). g (f x) ∷ zs) (map_twice g f xs)
