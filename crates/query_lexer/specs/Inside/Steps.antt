-- What the private functions of this crate read in front of a text, one definition for each
-- function, as it computes it.
use Rattle.std.specs.Prelude.{ℕ, List, ◌++◌, Option, Some}
use Rattle.query_lexer.specs.Options.{◌>>=◌}

-- What is quoted, behind bytes that were read before.
abbrev pub with_bytes : List ℕ → Option (List ℕ × List ℕ) → Option (List ℕ × List ℕ)
with_bytes front read = read >>= λ x. Some (front ++ x.0, x.1)
