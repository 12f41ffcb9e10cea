use denote.Text.{Utf8}
use denote.Shadow.{shadow}
use Rattle.std.proofs.Common.{◌≡◌, ◌≤◌, length, string_bytes}
use Rattle.query_lexer.specs.Steps.{quoted_at}
use Rattle.query_lexer.specs.Inside.Steps.{with_bytes}
use Rattle.query_lexer.proofs.quotes.quoted_content.Given as goal

abbrev pub invariant-loop-piece : goal.invariant-loop-piece
invariant-loop-piece l = shadow (Utf8 l.rest) × (length l.rest ≤ length l.fn.text) × (with_bytes (string_bytes l.found) (quoted_at l.quote l.rest) ≡ quoted_at l.quote l.fn.text)

abbrev pub decreases-loop-piece : goal.decreases-loop-piece
decreases-loop-piece l = length l.rest
