-- What a worker has, and what it does.
use Rattle.std.specs.Prelude.{◌≡◌, ℕ, ◌+◌, ◌^◌, ◌<◌}
use Rattle.std.specs.List.{sum_by}
use Rattle.pool.specs.Fanned.{Follows}
use Rattle.pool.specs.Holding.{Holding, numbers_of}
use Rattle.pool.specs.Combination.{reduction_from}
use Rattle.pool.specs.Reduction.{Reduction, piece_weight, load_below, load_onto}

-- What a worker has: its hand, the sum of its share, and its part.
pub record Worker (P : Type 0) : Type 0 where
  pub hand : Holding
  pub sum : ℕ
  pub part : P

-- A worker went on: its hand keeps its seat, the part is what the worker began with and the pieces
-- in the hand's list, combined, and the share has grown by the weights of those that joined the
-- list.
pub record Did {M : Type 0} (begin : M) (r : Reduction M) (h : Holding) (s : ℕ) (k : Holding) (t : ℕ) (m : M) : Type 0 where
  pub follows : Follows h k
  pub part : m ≡ reduction_from r begin (numbers_of k)
  pub sum : t + sum_by (piece_weight r) (numbers_of h) ≡ s + sum_by (piece_weight r) (numbers_of k)

-- A worker may go on: the part is what the worker began with and the pieces in the hand's list,
-- combined; the part has room for the loads of all pieces, and the share for those of the pieces
-- that the hand may still take
pub record MayGoOn {M : Type 0} (begin : M) (r : Reduction M) (k : Holding) (t : ℕ) (m : M) : Type 0 where
  pub part : m ≡ reduction_from r begin (numbers_of k)
  pub loads : load_onto r begin k.pieces < 2 ^ 63
  pub room : t + load_below r k.pieces < 2 ^ 63 + sum_by (piece_weight r) (numbers_of k)

-- There is a part of the work that a worker with this hand, this share's sum and this part may have
-- begun with, so that it may go on.
abbrev pub MayResume : {M : Type 0} → Reduction M → Holding → ℕ → M → Type 0
MayResume r h s m = (begin : _) × r.fits begin × MayGoOn begin r h s m

-- Whatever part of the work it began with: where a worker with this hand, sum and part may go on,
-- it went on to those
abbrev pub HasResumed : {M : Type 0} → Reduction M → Holding → ℕ → M → Holding → ℕ → M → Type 0
HasResumed r h s m k t n = (begin : _) → r.fits begin → MayGoOn begin r h s m → Did begin r h s k t n
