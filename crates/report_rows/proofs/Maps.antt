-- Lists, one more at a time.
use Rattle.std.proofs.Common.{◌≡◌, ◌+◌, ◌<◌, ℕ, zero, suc, List, [], ◌∷◌, ◌++◌, take, drop, map, slice_get, option_map, Some, get_or, length, refl, sym, ap, arith, ◌∙◌, add-one}
use Rattle.std.proofs.lemmas.List.{map-append, map_more, map_push}
use Rattle.std.specs.List.{AllByRecursion}

next : {X Y : Type 0} (f : X → Y) (xs : List X) (i : ℕ) (y : Y) → Some y ≡ option_map f (slice_get xs i) → map f (take (suc i) xs) ≡ map f (take i xs) ++ y ∷ []
next f [] i y e = absurd cc
next {X} {Y} f (x ∷ xs) zero y e = let same : f x ≡ y = cc in ap (λ (z : Y). z ∷ []) same
next {X} {Y} f (x ∷ xs) (suc i) y e = ap (λ (zs : List Y). f x ∷ zs) (next f xs i y e)

-- a turn of a loop that goes by places
pub map-next : {X Y : Type 0} (f : X → Y) (xs : List X) (i : ℕ) (y : Y) → Some y ≡ option_map f (slice_get xs i) → map f (take (i + 1) xs) ≡ map f (take i xs) ++ y ∷ []
map-next {X} f xs i y e = ap (λ (n : ℕ). map f (take n xs)) (add-one i) ∙ next f xs i y e

-- the same where what the turn pushes is told by what it is made of
pub map-pushed : {X Y Z : Type 0} (g : Y → Z) (f : X → Z) (xs : List X) (i : ℕ) (x : X) (ys new : List Y) (y : Y) → i < length xs → x ≡ get_or xs i x
    → new ≡ ys ++ y ∷ [] → g y ≡ f x → map g ys ≡ map f (take i xs) → map g new ≡ map f (take (i + 1) xs)
map-pushed {X} {Y} {Z} g f xs i x ys new y lt is pushed same told =
    ap (map g) pushed ∙ map_push g ys y ∙ ap (λ (zs : List Z). zs ++ g y ∷ []) told
    ∙ ap (λ (z : Z). map f (take i xs) ++ z ∷ []) (same ∙ ap f is) ∙ sym (map_more f xs i x lt)

none-first : {X : Type 0} (xs : List X) (n : ℕ) → xs ≡ [] → take n xs ≡ []
none-first [] zero e = refl
none-first [] (suc n) e = refl
none-first (x ∷ xs) n e = absurd cc

-- the first ones, and so many behind them
take-more : {X : Type 0} (xs : List X) (i n : ℕ) → take (i + n) xs ≡ take i xs ++ take n (drop i xs)
take-more {X} xs zero n = let e : zero + n ≡ n = omega arith in ap (λ (m : ℕ). take m xs) e
take-more {X} [] (suc i) n = none-first [] (suc i + n) refl ∙ sym (none-first [] n refl)
take-more {X} (x ∷ xs) (suc i) n =
    let e : suc i + n ≡ suc (i + n) = omega arith in
    ap (λ (m : ℕ). take m (x ∷ xs)) e ∙ ap (λ (ys : List X). x ∷ ys) (take-more xs i n)

-- a turn of a loop that goes by so many places at a time
pub map-more : {X Y : Type 0} (f : X → Y) (xs : List X) (i n : ℕ) → map f (take (i + n) xs) ≡ map f (take i xs) ++ map f (take n (drop i xs))
map-more {X} f xs i n = ap (λ (ys : List X). map f ys) (take-more xs i n) ∙ map-append f (take i xs) (take n (drop i xs))

-- one map after another
pub map-twice : {X Y Z : Type 0} (g : Y → Z) (f : X → Y) (xs : List X) → map g (map f xs) ≡ map (λ x. g (f x)) xs
map-twice g f [] = refl
map-twice {X} {Y} {Z} g f (x ∷ xs) = ap (λ (zs : List Z). g (f x) ∷ zs) (map-twice g f xs)

-- what holds of each mapped one holds of each by its map
pub all-of-map : {X Y : Type 0} (f : X → Y) (P : Y → Type 0) (xs : List X) → AllByRecursion P (map f xs) → AllByRecursion (λ x. P (f x)) xs
all-of-map f P [] all = tt
all-of-map f P (x ∷ xs) all = (all.0, all-of-map f P xs all.1)
