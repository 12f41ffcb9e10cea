-- The pieces of a cut: how many there are, and how each ends.
use Rattle.std.proofs.Common.{◌≡◌, ◌∙◌, ◌<◌, ◌≤◌, ◌+◌, ◌-◌, ◌*◌, ◌/◌, ℕ, zero, suc, List, [], ◌∷◌, ◌++◌, length, map, take, drop, slice_index, refl, sym, ap, inl, inr, arith, length-drop, Result, Ok, Err}
use Rattle.std.specs.Prelude.{All, IfOk}
use Rattle.std.specs.Global.{Vec}
use Rattle.std.specs.List.{enumerate_from, flat_map}
use Rattle.std.proofs.Math.Nat.{mul-le-mul_left}
use Rattle.std.proofs.Math.Seq.{take-suc}
use Rattle.std.proofs.lemmas.Bool.{cases_lt}
use Rattle.std.proofs.lemmas.List.{get_or-drop}
use Rattle.std.proofs.lemmas.List.Elements.{All-head, All-tail}
use Rattle.lines.specs.declared.pieces.Piece.{Piece}
use Rattle.semantics.specs.Lines.{line_feed, lines}
use Rattle.lines.specs.Pieces.{AllButLast, AreConsecutive, AreWholeLines, EndsInFeed, IsStop, after_feed, at_end, bytes_of}
use Rattle.tables.specs.Pieces.{IndexedPiece, IsCutInto, all_lines, joined_bytes}
use Rattle.tables.specs.Pieces.{indexed_pieces, indexed_pieces_from, no_bytes, with_index}
use Rattle.tables.specs.Partials.{one_piece}

-- ---- how many there are

-- the pieces follow one another from `at` up to `total`
abbrev Follow : ℕ → List Piece → ℕ → Type 0
Follow at pieces total = map (λ (piece : Piece). piece.start) pieces ++ total ∷ [] ≡ at ∷ map (λ (piece : Piece). piece.stop) pieces

first-start : (at : ℕ) (p : Piece) (ps : List Piece) (total : ℕ) → Follow at (p ∷ ps) total → p.start ≡ at
first-start at p ps total follow = ap (λ xs. slice_index xs 0) follow

others-follow : (at : ℕ) (p : Piece) (ps : List Piece) (total : ℕ) → Follow at (p ∷ ps) total → Follow p.stop ps total
others-follow at p ps total follow = ap (drop 1) follow

-- a piece that is not the last has so many bytes as were wanted, or more
long-enough : (input : List ℕ) (target : ℕ) (p : Piece) → 1 ≤ target → IsStop input target p.start p.stop
    → p.stop < length input → p.start + target ≤ p.stop
long-enough input target p wanted (after_feed place first is) before = omega (arith, first.not_below)
long-enough input target p wanted (at_end none is) before = absurd (omega arith)

-- so many pieces, of so many bytes each, are not longer than what there is
short-enough : (input : List ℕ) (target at : ℕ) (ps : List Piece) → 1 ≤ target → Follow at ps (length input)
    → All (λ piece. piece.start < piece.stop) ps → All (λ piece. piece.stop ≤ length input) ps
    → All (λ piece. IsStop input target piece.start piece.stop) ps
    → length ps * target + at < length input + target
short-enough input target at [] wanted follow some within stops =
    let end : length input ≡ at = ap (λ xs. slice_index xs 0) follow in omega arith
short-enough input target at (p ∷ []) wanted follow some within stops =
    omega (arith, first-start at p [] (length input) follow, All-head (λ piece. piece.start < piece.stop) p [] some, All-head (λ piece. piece.stop ≤ length input) p [] within)
short-enough input target at (p ∷ q ∷ qs) wanted follow some within stops =
    let next = others-follow at p (q ∷ qs) (length input) follow in
    let left : All (λ piece. piece.start < piece.stop) (q ∷ qs) = All-tail (λ piece. piece.start < piece.stop) p (q ∷ qs) some in
    let inside : All (λ piece. piece.stop ≤ length input) (q ∷ qs) = All-tail (λ piece. piece.stop ≤ length input) p (q ∷ qs) within in
    let stop : p.stop < length input =
    omega (arith, first-start p.stop q qs (length input) next, All-head (λ piece. piece.start < piece.stop) q qs left, All-head (λ piece. piece.stop ≤ length input) q qs inside) in
    let long = long-enough input target p wanted (All-head (λ piece. IsStop input target piece.start piece.stop) p (q ∷ qs) stops) stop in
    let rest = short-enough input target p.stop (q ∷ qs) wanted next left inside (All-tail (λ piece. IsStop input target piece.start piece.stop) p (q ∷ qs) stops) in
    omega (arith, first-start at p (q ∷ qs) (length input) follow, long, rest)

-- there are no more than 1,048,576 pieces of more than that part of the input
pub few-pieces : (input : List ℕ) (target : ℕ) (ps : List Piece) → length input / 1048576 < target
    → AreConsecutive ps (length input) → All (λ piece. piece.start < piece.stop) ps
    → All (λ piece. piece.stop ≤ length input) ps → All (λ piece. IsStop input target piece.start piece.stop) ps
    → length ps ≤ 1048576
few-pieces input target ps above follow some within stops =
    let short : length ps * target + 0 < length input + target =
    short-enough input target 0 ps (omega arith) follow some within stops in
    elim (cases_lt (length ps) 1048577) [
      | inl few ↦ omega arith
      | inr many ↦ absurd (omega (arith, mul-le-mul_left target many))
    ]

-- ---- how each ends

-- a piece that stops after a line feed ends in it
ends-in-feed : (input : List ℕ) (start place : ℕ) → start ≤ place → place < length input → slice_index input place ≡ line_feed
    → take (place + 1 - start) (drop start input) ≡ take (place - start) (drop start input) ++ line_feed ∷ []
ends-in-feed input start place from within is =
    ap (λ n. take n (drop start input)) (let e : place + 1 - start ≡ suc (place - start) = omega arith in e)
    ∙ take-suc (drop start input) (place - start) 0 (omega (arith, length-drop start input))
    ∙ ap (λ x. take (place - start) (drop start input) ++ x ∷ [])
    (get_or-drop start input (place - start) 0 ∙ ap (λ n. slice_index input n) (let e : start + (place - start) ≡ place = omega arith in e) ∙ is)

feed-ended : (input : List ℕ) (target : ℕ) (p : Piece) → 1 ≤ target → IsStop input target p.start p.stop
    → p.stop < length input → EndsInFeed (bytes_of input p)
feed-ended input target p wanted (after_feed place first stop) before = record {
  front = take (place - p.start) (drop p.start input);
  is = ap (λ n. take (n - p.start) (drop p.start input)) stop ∙ ends-in-feed input p.start place (omega (arith, first.not_below)) first.within first.is_feed;
}
feed-ended input target p wanted (at_end none stop) before = absurd (omega arith)

-- each piece but the last ends in a line feed
feeds-from : (input : List ℕ) (target at index : ℕ) (ps : List Piece) → 1 ≤ target → Follow at ps (length input)
    → All (λ piece. piece.start < piece.stop) ps → All (λ piece. piece.stop ≤ length input) ps
    → All (λ piece. IsStop input target piece.start piece.stop) ps
    → AllButLast (λ piece. EndsInFeed piece.bytes) (map (with_index input) (enumerate_from index ps))
feeds-from input target at index [] wanted follow some within stops = tt
feeds-from input target at index (p ∷ []) wanted follow some within stops = tt
feeds-from input target at index (p ∷ q ∷ qs) wanted follow some within stops =
    let next = others-follow at p (q ∷ qs) (length input) follow in
    let left : All (λ piece. piece.start < piece.stop) (q ∷ qs) = All-tail (λ piece. piece.start < piece.stop) p (q ∷ qs) some in
    let inside : All (λ piece. piece.stop ≤ length input) (q ∷ qs) = All-tail (λ piece. piece.stop ≤ length input) p (q ∷ qs) within in
    let stop : p.stop < length input =
    omega (arith, first-start p.stop q qs (length input) next, All-head (λ piece. piece.start < piece.stop) q qs left, All-head (λ piece. piece.stop ≤ length input) q qs inside) in (
      feed-ended input target p wanted (All-head (λ piece. IsStop input target piece.start piece.stop) p (q ∷ qs) stops) stop,
      feeds-from input target p.stop (index + 1) (q ∷ qs) wanted next left inside (All-tail (λ piece. IsStop input target piece.start piece.stop) p (q ∷ qs) stops),
    )

-- ---- their indexes, their bytes and their lines

-- the indexes are one above the other
indexes-rise : (input : List ℕ) (index : ℕ) (ps : List Piece) (k : ℕ)
    → k < length (map (λ (piece : IndexedPiece). piece.index) (map (with_index input) (enumerate_from index ps)))
    → slice_index (map (λ (piece : IndexedPiece). piece.index) (map (with_index input) (enumerate_from index ps))) k ≡ index + k
indexes-rise input index [] k lt = absurd (omega arith)
indexes-rise input index (p ∷ ps) zero lt = omega arith
indexes-rise input index (p ∷ ps) (suc k) lt = omega (arith, indexes-rise input (index + 1) ps k (omega arith))

-- the bytes are those of the pieces
same-bytes : (input : List ℕ) (index : ℕ) (ps : List Piece)
    → joined_bytes (map (with_index input) (enumerate_from index ps)) ≡ flat_map (bytes_of input) ps
same-bytes input index [] = refl
same-bytes input index (p ∷ ps) = ap (λ bytes. bytes_of input p ++ bytes) (same-bytes input (index + 1) ps)

-- the lines are those of the pieces
pub same-lines : (input : List ℕ) (index : ℕ) (ps : List Piece)
    → all_lines (map (with_index input) (enumerate_from index ps)) ≡ flat_map (λ piece. lines (bytes_of input piece)) ps
same-lines input index [] = refl
same-lines input index (p ∷ ps) = ap (λ ls. lines (bytes_of input p) ++ ls) (same-lines input (index + 1) ps)

-- the pieces of a cut are those that the input is cut into
pub cut-into : (input : List ℕ) (target : ℕ) (ps : List Piece) → 1 ≤ target → AreConsecutive ps (length input)
    → All (λ piece. piece.start < piece.stop) ps → All (λ piece. piece.stop ≤ length input) ps
    → All (λ piece. IsStop input target piece.start piece.stop) ps → flat_map (bytes_of input) ps ≡ input
    → IsCutInto input (indexed_pieces input ps)
cut-into input target ps wanted follow some within stops joined = record {
  in_order = λ k lt. omega (arith, indexes-rise input 0 ps k (omega arith), indexes-rise input 0 ps (k + 1) lt);
  joined = same-bytes input 0 ps ∙ joined;
  feeds = feeds-from input target 0 0 ps wanted follow some within stops;
}

-- ---- behind a front

-- whatever the first index, the pieces end as they do
feeds-same : (input : List ℕ) (index other : ℕ) (ps : List Piece)
    → AllButLast (λ piece. EndsInFeed piece.bytes) (map (with_index input) (enumerate_from index ps)) → AllButLast (λ piece. EndsInFeed piece.bytes) (map (with_index input) (enumerate_from other ps))
feeds-same input index other [] feeds = tt
feeds-same input index other (p ∷ []) feeds = tt
feeds-same input index other (p ∷ q ∷ qs) feeds = (feeds.0, feeds-same input (index + 1) (other + 1) (q ∷ qs) feeds.1)

-- behind a piece that ends in a line feed
feeds-behind : (first : IndexedPiece) (pieces : List IndexedPiece) → EndsInFeed first.bytes → AllButLast (λ piece. EndsInFeed piece.bytes) pieces → AllButLast (λ piece. EndsInFeed piece.bytes) (first ∷ pieces)
feeds-behind first [] feed feeds = tt
feeds-behind first (p ∷ ps) feed feeds = (feed, feeds)

ends-some : (b : ℕ) (bytes : List ℕ) → AreWholeLines (b ∷ bytes) → EndsInFeed (b ∷ bytes)
ends-some b bytes (inl none) = absurd (let n = ap length none in omega (arith, n))
ends-some b bytes (inr feed) = feed

-- a front of whole lines as one piece, and behind it the pieces that the rest is cut into, are
-- pieces of both
pub cut-behind : (front rest : List ℕ) (ps : List Piece) → AreWholeLines front → IsCutInto rest (indexed_pieces rest ps) → IsCutInto (front ++ rest) (one_piece front ++ indexed_pieces_from 1 rest ps)
cut-behind [] rest ps whole cut = record {
  in_order = λ k lt. omega (arith, indexes-rise rest 1 ps k (omega arith), indexes-rise rest 1 ps (k + 1) lt);
  joined = same-bytes rest 1 ps ∙ sym (same-bytes rest 0 ps) ∙ cut.joined;
  feeds = feeds-same rest 0 1 ps cut.feeds;
}
cut-behind (b ∷ bytes) rest ps whole cut = record {
  in_order = λ k lt. omega (arith, indexes-rise rest 0 (no_bytes ∷ ps) k (omega arith), indexes-rise rest 0 (no_bytes ∷ ps) (k + 1) lt);
  joined = ap (λ bs. (b ∷ bytes) ++ bs) (same-bytes rest 1 ps ∙ sym (same-bytes rest 0 ps) ∙ cut.joined);
  feeds = feeds-behind (record { index = 0; bytes = b ∷ bytes }) (indexed_pieces_from 1 rest ps) (ends-some b bytes whole) (feeds-same rest 0 1 ps cut.feeds);
}

-- ---- of what is answered

-- a cut that is answered is of few pieces
pub few-answered : {E : Type 0} (input : List ℕ) (target : ℕ) (r : Result (Vec Piece) E) → length input / 1048576 < target
    → IfOk r (λ v. AreConsecutive v.items (length input)) → IfOk r (λ v. All (λ piece. piece.start < piece.stop) v.items)
    → IfOk r (λ v. All (λ piece. piece.stop ≤ length input) v.items)
    → IfOk r (λ v. All (λ piece. IsStop input target piece.start piece.stop) v.items)
    → IfOk r (λ v. length v.items ≤ 1048576)
few-answered input target (Ok v) above follow some within stops = few-pieces input target v.items above follow some within stops
few-answered input target (Err e) above follow some within stops = tt

-- and its pieces are those that the input is cut into
pub cut-answered : {E : Type 0} (input : List ℕ) (target : ℕ) (r : Result (Vec Piece) E) → 1 ≤ target
    → IfOk r (λ v. AreConsecutive v.items (length input)) → IfOk r (λ v. All (λ piece. piece.start < piece.stop) v.items)
    → IfOk r (λ v. All (λ piece. piece.stop ≤ length input) v.items)
    → IfOk r (λ v. All (λ piece. IsStop input target piece.start piece.stop) v.items)
    → IfOk r (λ v. flat_map (bytes_of input) v.items ≡ input)
    → IfOk r (λ v. IsCutInto input (indexed_pieces input v.items))
cut-answered input target (Ok v) wanted follow some within stops joined = cut-into input target v.items wanted follow some within stops joined
cut-answered input target (Err e) wanted follow some within stops joined = tt

-- and its lines are those of the input
pub lines-answered : {E : Type 0} (input : List ℕ) (r : Result (Vec Piece) E)
    → IfOk r (λ v. flat_map (λ piece. lines (bytes_of input piece)) v.items ≡ lines input)
    → IfOk r (λ v. all_lines (indexed_pieces input v.items) ≡ lines input)
lines-answered input (Ok v) same = same-lines input 0 v.items ∙ same
lines-answered input (Err e) same = tt
