-- When two shapes are the same.
use Rattle.std.specs.Prelude.{◌≡◌, map, string_bytes}
use Rattle.query_resolve.specs.Resolution.{contents}
use Rattle.tables.specs.declared.shape.Shape.{Shape}

-- Two shapes have the same grouping sets, set functions and texts of filters.
abbrev pub AreSameShapes : Shape → Shape → Type 0
AreSameShapes shape other =
    (contents shape.sets.items ≡ contents other.sets.items)
    × (shape.functions.items ≡ other.functions.items)
    × (map string_bytes shape.filters.items ≡ map string_bytes other.filters.items)
