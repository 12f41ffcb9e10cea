-- The lines of an input. Of two inputs, one after the other, of which the first is whole lines,
-- they are those of the first and then those of the second (`front_law` of lines).
use Rattle.std.specs.List.{slice_split}
use Rattle.std.specs.Prelude.{ℕ, ◌==◌, List, [], ◌∷◌, length, if◌then◌else◌}

-- The byte that ends a line.
abbrev pub line_feed : ℕ
line_feed = 10

-- The parts, without the last one if that is empty.
abbrev pub without_empty_last : List (List ℕ) → List (List ℕ)
without_empty_last [] = []
without_empty_last (part ∷ []) = if length part == 0 then [] else part ∷ []
without_empty_last (part ∷ next ∷ more) = part ∷ without_empty_last (next ∷ more)

-- The lines of the bytes: the parts between the line feeds, without the last one if it is empty.
abbrev pub lines : List ℕ → List (List ℕ)
lines bytes = without_empty_last (slice_split (λ b. b == line_feed) bytes)
