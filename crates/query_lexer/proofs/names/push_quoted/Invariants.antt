use denote.Text.{Utf8}
use denote.Shadow.{shadow}
use Rattle.std.proofs.Common.{◌≡◌, ◌++◌, ◌∷◌, length, string_bytes}
use Rattle.semantics.specs.Words.{with_quotes_doubled}
use Rattle.query_lexer.proofs.names.push_quoted.Given as goal

abbrev pub invariant-loop-piece : goal.invariant-loop-piece
invariant-loop-piece l = shadow (Utf8 l.rest) × (string_bytes l.out ++ with_quotes_doubled l.quote l.rest ≡ string_bytes l.fn.out ++ l.quote ∷ with_quotes_doubled l.quote l.fn.text)

abbrev pub decreases-loop-piece : goal.decreases-loop-piece
decreases-loop-piece l = length l.rest
