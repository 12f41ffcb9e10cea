-- Parts of texts in the code.
use Rattle.std.specs.Borrow.{Bor}
use Rattle.std.specs.Prelude.{◌≡◌, ℕ, List, Option, option_map}

-- What is lent of a text is this part of it.
abbrev pub IsBehind : Option (List ℕ) → Option (Bor (List ℕ)) → Type 0
IsBehind found lent = found ≡ option_map (λ x. x.now) lent
