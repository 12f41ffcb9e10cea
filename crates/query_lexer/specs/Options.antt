-- Options that are made step by step, for the contracts of private functions.
use Rattle.std.specs.Prelude.{◌≡◌, Option, Some, None, option_and_then}

infixl 10 ◌>>=◌
-- One step that may fail, and then another.
abbrev pub ◌>>=◌ : {A B : Type 0} → Option A → (A → Option B) → Option B
read >>= f = option_and_then f read

-- What is made of a value, or what stands for none.
abbrev pub choose : {A B : Type 0} → Option A → B → (A → B) → B
choose None b f = b
choose (Some x) b f = f x

-- What a function returned, seen by view, is what is read.
abbrev pub Tells : {X Y : Type 0} → (X → Y) → Option X → Option Y → Type 0
Tells view (Some x) read = read ≡ Some (view x)
Tells view None read = read ≡ None
