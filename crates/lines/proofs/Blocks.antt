-- Lines that are given block by block.
use Rattle.std.proofs.Common.{◌≡◌, ◌<◌, ℕ, List, [], ◌∷◌, ◌++◌, length, Option, Some, None, refl, sym, ap, ◌∙◌, arith}
use Rattle.std.specs.Prelude.{MatchOption}
use Rattle.semantics.specs.Lines.{lines}
use Rattle.lines.specs.declared.utf8.Line.{Line}
use Rattle.lines.specs.Checked.{line_bytes}
use Rattle.lines.proofs.Splits.{lines-some}

-- no line of a block that has bytes is left out, so without a line there is no block
no_block : (block : List ℕ) → 0 < length block → lines block ≡ [] → ⊥
no_block block some none = let more = lines-some block some in let same = ap length none in omega (arith, more, same)

-- where the block in front gives its first line, or has none, so do all bytes
pub block_steps : (rest block behind : List ℕ) (r : Option Line) (left : List (List ℕ))
    → lines block ++ lines behind ≡ lines rest → (0 < length rest → 0 < length block)
    → MatchOption r ((lines block ≡ []) × (left ≡ [])) (λ line. lines block ≡ line_bytes line ∷ left)
    → MatchOption r ((lines rest ≡ []) × (left ++ lines behind ≡ [])) (λ line. lines rest ≡ line_bytes line ∷ (left ++ lines behind))
block_steps rest block behind (Some line) left joined some h = sym joined ∙ ap (λ ls. ls ++ lines behind) h
block_steps [] block behind None left joined some h =
    (refl, ap (λ ls. ls ++ lines behind) h.1 ∙ ap (λ ls. ls ++ lines behind) (sym h.0) ∙ joined)
block_steps (x ∷ rest) block behind None left joined some h = absurd (no_block block (some (omega arith)) h.0)
