use Rattle.std.proofs.Common.{◌≡◌, ℕ, false, List, Option, drop, map}
use Rattle.std.specs.List.{find}
use Rattle.std.specs.Option.{option_map_or}
use Rattle.std.specs.Str.{bytes_eq}
use Rattle.query_ast.specs.Syntax.{item_form}
use Rattle.semantics.specs.Syntax.{SelectItem}
use Rattle.query_typecheck.proofs.resolution.key_expression.Given as goal

-- The first item that has this alias.
abbrev item_of_alias : List SelectItem → List ℕ → Option SelectItem
item_of_alias items n = find (λ i. option_map_or (bytes_eq n) i.alias false) items

abbrev pub invariant-loop-item : goal.invariant-loop-item
invariant-loop-item l = item_of_alias (map item_form (drop l.item-index l.items)) l.name ≡ item_of_alias (map item_form l.items) l.name
