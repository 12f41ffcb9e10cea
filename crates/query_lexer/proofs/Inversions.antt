-- What follows from an Option that is made step by step.
use Rattle.std.proofs.Common.{Bool, true, false, cond, ◌≡◌, ◌⊎◌, inl, inr, Option, Some, None, refl, ◌&&◌}
use Rattle.query_lexer.specs.Options.{◌>>=◌, choose}

-- Two steps that give a value: the first gave one.
pub bind_some : {A B : Type 0} (o : Option A) (f : A → Option B) (y : B) → (o >>= f) ≡ Some y → (x : A) × (o ≡ Some x) × (f x ≡ Some y)
bind_some (Some x) f y e = (x, refl, e)
bind_some None f y e = absurd cc

-- A choice that gives a value: which way it went.
pub choose_some : {A B : Type 0} (o : Option A) (b : Option B) (f : A → Option B) (y : B) → choose o b f ≡ Some y → ((o ≡ None) × (b ≡ Some y)) ⊎ ((x : A) × (o ≡ Some x) × (f x ≡ Some y))
choose_some (Some x) b f y e = inr (x, refl, e)
choose_some None b f y e = inl (refl, e)

-- A value in an Option.
abbrev pub given : {A : Type 0} → A → Option A
given x = Some x

-- Two equal Options hold equal values.
pub some_is : {A : Type 0} (x y : A) → given x ≡ given y → x ≡ y
some_is x y e = cc

-- A test that gives a value held.
pub test_some : {A : Type 0} (t : Bool) (x y : A) → cond t (Some x) None ≡ Some y → (t ≡ true) × (x ≡ y)
test_some true x y h = (refl, cc)
test_some false x y h = absurd cc

-- Both parts of a test hold.
pub and_both : (a b : Bool) → (a && b) ≡ true → (a ≡ true) × (b ≡ true)
and_both true b e = (refl, e)
and_both false b e = absurd cc
