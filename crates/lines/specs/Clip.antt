-- An input whose lines are clipped: cut to a length. The law `clip_law` says what it is without a
-- walk.
use Rattle.std.specs.Prelude.{ℕ, ◌+◌, ◌==◌, nat_lt, List, ◌∷◌, if◌then◌else◌, []}
use Rattle.std.specs.List.{slice_split}
use Rattle.semantics.specs.Lines.{line_feed}
use Rattle.semantics.specs.Records.{max_line_len}

-- The parts between the line feeds, and before the first and behind the last.
abbrev pub parts : List ℕ → List (List ℕ)
parts input = slice_split (λ b. b == line_feed) input

-- The bytes clipped: of each line only the first `most`; `so_far` bytes of the first line stand
-- before them and are counted
abbrev pub clip_from : (most so_far : ℕ) → List ℕ → List ℕ
clip_from most so_far [] = []
clip_from most so_far (b ∷ bs) =
    if b == line_feed then b ∷ clip_from most 0 bs
    else if nat_lt so_far most then b ∷ clip_from most (so_far + 1) bs
    else clip_from most so_far bs

-- The length to which a line is clipped: so many bytes are enough to tell that it is too long.
abbrev pub clipped_len : ℕ
clipped_len = max_line_len + 1

-- The input with each line clipped to so many bytes; its line feeds stay.
abbrev pub clip_lines : List ℕ → List ℕ
clip_lines input = clip_from clipped_len 0 input
