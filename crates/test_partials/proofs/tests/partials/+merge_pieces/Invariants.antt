use Rattle.std.proofs.Common.{length}
use Rattle.test_partials.proofs.tests.partials.+merge_pieces.Given as goal

-- fewer pieces in each part
abbrev pub decreases-merge_pieces : goal.decreases-merge_pieces
decreases-merge_pieces g l = length l.pieces.now
