-- Lines that come as texts or as bytes.
use Rattle.std.specs.Prelude.{ℕ, List}
use Rattle.lines.specs.declared.utf8.Block.{Block}
use Rattle.lines.specs.declared.utf8.Block.TheVariants.{Texts}
use Rattle.lines.specs.declared.utf8.Line.{Line}
use Rattle.lines.specs.declared.utf8.Line.TheVariants.{Text}
use Rattle.lines.specs.declared.utf8.Block.TheVariants as block
use Rattle.lines.specs.declared.utf8.Line.TheVariants as line

-- The bytes of a line.
abbrev pub line_bytes : Line → List ℕ
line_bytes (Text text) = text.now
line_bytes (line.Bytes bytes) = bytes.now

-- The lines of a block that are left.
abbrev pub lines_left : Block → List (List ℕ)
lines_left (Texts texts) = texts
lines_left (block.Bytes others) = others
