use Rattle.std.proofs.Common.{◌≡◌, ◌<◌, ◌≤◌, ◌-◌, ◌++◌, All, length, drop}
use Rattle.std.specs.List.{flat_map}
use Rattle.semantics.specs.Lines.{lines}
use Rattle.lines.specs.Pieces.{AreConsecutive, IsStop, bytes_of}
use Rattle.lines.proofs.cuts.cut.Given as goal

-- what the contract says of all pieces holds of those so far, up to where the next one starts
abbrev pub invariant-loop-start : goal.invariant-loop-start
invariant-loop-start l = record {
  in_range : l.start ≤ length l.input;
  consecutive : AreConsecutive l.pieces.items l.start;
  not_empty : All (λ piece. piece.start < piece.stop) l.pieces.items;
  within : All (λ piece. piece.stop ≤ length l.input) l.pieces.items;
  stops : All (λ piece. IsStop l.input l.target piece.start piece.stop) l.pieces.items;
  joined : flat_map (bytes_of l.input) l.pieces.items ++ drop l.start l.input ≡ l.input;
  lines : flat_map (λ piece. lines (bytes_of l.input piece)) l.pieces.items ++ lines (drop l.start l.input) ≡ lines l.input;
}

abbrev pub decreases-loop-start : goal.decreases-loop-start
decreases-loop-start l = length l.input - l.start
