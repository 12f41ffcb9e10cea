-- What stands in front of the tokens of a JSON text.
use Rattle.std.specs.Prelude.{◌≡◌, ℕ, List, length, Option, Some}
use Rattle.json.specs.Token.{Token}
use Rattle.json.specs.Json.{items, members, value}
use Rattle.serde_json.specs.Data.{Data, Items, Members, no_members}
use Rattle.serde_json.specs.Read.{of_items, of_json, of_members}

-- The grammar answers a tree that means this, and these tokens are behind it.
pub record Means {A B : Type 0} (meaning : A → Option B) (answer : Option (A × List Token)) (meant : B) (rest : List Token) : Type 0 where
  pub tree : A
  pub parsed : answer ≡ Some (tree, rest)
  pub is : meaning tree ≡ Some meant

-- a value that nests at most `depth` deep stands first
abbrev pub IsValue : (depth : ℕ) → List Token → Data → List Token → Type 0
IsValue depth tokens d rest = Means of_json (value depth tokens) d rest

-- The items of an array stand first, with the bracket that closes it.
abbrev pub AreItems : (depth : ℕ) → List Token → Items → List Token → Type 0
AreItems depth tokens ds rest = Means of_items (items (value depth) (length tokens) tokens) ds rest

-- The members of an object stand first, with the brace that closes it; of members of one name the
-- last one counts
abbrev pub AreMembers : (depth : ℕ) → List Token → Members → List Token → Type 0
AreMembers depth tokens found rest = Means (λ ms. of_members ms no_members) (members (value depth) (length tokens) tokens) found rest
