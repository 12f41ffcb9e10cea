-- What follows from a result that is made step by step.
use Rattle.std.proofs.Common.{Bool, true, false, cond, List, ◌≡◌, ◌⊎◌, inl, inr, Option, Some, None, Result, Ok, Err, refl}
use Rattle.semantics.specs.declared.token.Token.{Token}
use Rattle.values.specs.Results.{◌>>=◌}
use Rattle.query_lexer.specs.Options.{choose}
use Rattle.query_parser.specs.Inside.Stops.{Stop}
use Rattle.query_parser.specs.Inside.Steps.{found_or_unexpected}

-- Two steps that give a value: the first gave one.
pub bind_ok : {A B : Type 0} (o : Result A Stop) (f : A → Result B Stop) (y : B) → (o >>= f) ≡ Ok y → (x : A) × (o ≡ Ok x) × (f x ≡ Ok y)
bind_ok (Ok x) f y e = (x, refl, e)
bind_ok (Err n) f y e = absurd cc

-- A choice that gives a value: which way it went.
pub choose_ok : {A B : Type 0} (o : Option A) (b : Result B Stop) (f : A → Result B Stop) (y : B) → choose o b f ≡ Ok y → ((o ≡ None) × (b ≡ Ok y)) ⊎ ((x : A) × (o ≡ Some x) × (f x ≡ Ok y))
choose_ok (Some x) b f y e = inr (x, refl, e)
choose_ok None b f y e = inl (refl, e)

-- A value that is given.
abbrev pub given : {A : Type 0} → A → Result A Stop
given x = Ok x

-- Two equal results hold equal values.
pub ok_is : {A : Type 0} (x y : A) → given x ≡ given y → x ≡ y
ok_is x y e = cc

choice_is : {A : Type 0} (o : Option A) (n : Stop) (y : A) → choose o (Err n) (λ x. given x) ≡ Ok y → o ≡ Some y
choice_is (Some x) n y e = let h = ok_is x y e in cc
choice_is None n y e = absurd cc

-- What was expected stood there.
pub found_or_stuck_is : {A : Type 0} (front : List Token → Option A) (ts : List Token) (x : A) → found_or_unexpected front ts ≡ Ok x → front ts ≡ Some x
found_or_stuck_is front ts x e = choice_is (front ts) _ x e

-- What was expected stood there, and the next step gave a value.
pub only_ok : {A B : Type 0} (front : List Token → Option A) (ts : List Token) (f : A → Result B Stop) (y : B) → (found_or_unexpected front ts >>= f) ≡ Ok y → (x : A) × (front ts ≡ Some x) × (f x ≡ Ok y)
only_ok front ts f y e = let a = bind_ok (found_or_unexpected front ts) f y e in (a.0, found_or_stuck_is front ts a.0 a.1, a.2)

-- A test that gives a value held.
pub test_ok : {A : Type 0} (t : Bool) (x y : A) (n : Stop) → cond t (Ok x) (Err n) ≡ given y → (t ≡ true) × (x ≡ y)
test_ok true x y n h = (refl, ok_is x y h)
test_ok false x y n h = absurd cc
