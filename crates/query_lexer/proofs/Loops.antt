-- Steps of the loop over a quoted text.
use Rattle.std.proofs.Common.{◌≡◌, ℕ, ◌∷◌, [], ◌++◌, List, sym, refl, ap, Option, Some, None, ◌∙◌}
use Rattle.std.proofs.lemmas.List.{append-nil}
use Rattle.query_lexer.specs.Steps.{behind, quoted_at}
use Rattle.query_lexer.specs.Inside.Steps.{with_bytes}
use Rattle.query_lexer.proofs.Doubling.{HasNone, quoted_piece, quoted_close, quoted_twice, quoted_open, bytes_front}

abbrev Read : Type 0
Read = Option (List ℕ × List ℕ)

pub loop_open : (q : ℕ) (found rest : List ℕ) (total : Read) → with_bytes found (quoted_at q rest) ≡ total → HasNone q rest → total ≡ None
loop_open q found rest total told h = sym told ∙ rw (quoted_open q rest h) refl

pub loop_piece : (q : ℕ) (found rest piece left : List ℕ) (total : Read) → with_bytes found (quoted_at q rest) ≡ total → rest ≡ piece ++ q ∷ left → HasNone q piece → with_bytes (found ++ piece) (quoted_at q (q ∷ left)) ≡ total
loop_piece q found rest piece left total told e h =
    sym (bytes_front found piece (quoted_at q (q ∷ left))) ∙ (ap (with_bytes found) (sym (quoted_piece q piece (q ∷ left) h) ∙ ap (quoted_at q) (sym e)) ∙ told)

pub loop_close : (q : ℕ) (found rest piece left : List ℕ) (total : Read) → with_bytes found (quoted_at q rest) ≡ total → rest ≡ piece ++ q ∷ left → HasNone q piece → behind q left ≡ None → total ≡ Some (found ++ piece, left)
loop_close q found rest piece left total told e h d =
    sym (loop_piece q found rest piece left total told e h) ∙ rw (quoted_close q left d) (ap (λ (ys : List ℕ). Some (ys, left)) (append-nil (found ++ piece)))

pub loop_twice : (q : ℕ) (found rest piece left more : List ℕ) (total : Read) → with_bytes found (quoted_at q rest) ≡ total → rest ≡ piece ++ q ∷ left → HasNone q piece → behind q left ≡ Some more → with_bytes ((found ++ piece) ++ q ∷ []) (quoted_at q more) ≡ total
loop_twice q found rest piece left more total told e h d =
    sym (bytes_front (found ++ piece) (q ∷ []) (quoted_at q more)) ∙ (ap (with_bytes (found ++ piece)) (sym (quoted_twice q left more d)) ∙ loop_piece q found rest piece left total told e h)
