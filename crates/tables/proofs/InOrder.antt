-- The notes of pieces, one after the other.
use Rattle.std.proofs.Common.{◌≡◌, ◌+◌, ◌<◌, ◌≤◌, ◌^◌, ◌++◌, ◌∷◌, ℕ, List, All, map, sym, ap, subst, ◌∙◌, arith, append_assoc}
use Rattle.std.proofs.lemmas.List.Elements.{All-tail, All-weaker}
use Rattle.std.proofs.lemmas.List.Sorted.{All-permutation, IsPermutation-map, sum_by-IsPermutation}
use Rattle.std.proofs.lemmas.List.Sums.{sum_by-cons}
use Rattle.std.specs.List.Sorted.{IsNonDecreasingBy, IsPermutation}
use Rattle.semantics.specs.declared.line_fault.LineFault.{LineFault}
use Rattle.group_tables.proofs.Bags.{bag-permutation}
use Rattle.tables.specs.declared.piece_refusals.PieceRefusals.{PieceRefusals}
use Rattle.tables.specs.Inside.Notes.{AreLinesOf}
use Rattle.tables.specs.Notes.{IsWellNumbered, Noted, line_count, note_in, refused_lines_from}
use Rattle.tables.proofs.Orders.{non_decreasing-map}

-- ---- notes that have been sorted

shown : (notes sorted : List PieceRefusals) → IsPermutation notes sorted → IsPermutation (map note_in notes) (map note_in sorted)
shown notes sorted p = IsPermutation-map note_in notes sorted p

pub count-sorted : (notes sorted : List PieceRefusals) → IsPermutation notes sorted → line_count (map note_in notes) ≡ line_count (map note_in sorted)
count-sorted notes sorted p = sym (sum_by-IsPermutation (λ (n : Noted). n.lines) (map note_in notes) (map note_in sorted) (shown notes sorted p))

pub well-sorted : (notes sorted : List PieceRefusals) → IsPermutation notes sorted → All IsWellNumbered (map note_in notes) → All IsWellNumbered (map note_in sorted)
well-sorted notes sorted p well = All-permutation IsWellNumbered (map note_in notes) (map note_in sorted) (shown notes sorted p) well

pub lines-sorted : (notes sorted : List PieceRefusals) (lines : List (ℕ × LineFault)) → IsPermutation notes sorted → IsNonDecreasingBy (λ (note : PieceRefusals). note.index) sorted
    → lines ≡ refused_lines_from 0 (map note_in sorted) → AreLinesOf (map note_in notes) lines
lines-sorted notes sorted lines p up is = record {
  ordered = map note_in sorted;
  same = bag-permutation (map note_in notes) (map note_in sorted) (shown notes sorted p);
  ascending = non_decreasing-map note_in (λ (n : Noted). n.index) sorted up;
  numbered = is;
}

-- ---- a note, and those behind it

-- the lines that are counted and those of the rest
pub counted-next : (before all : ℕ) (old rest : List PieceRefusals) (note : PieceRefusals) → old ≡ note ∷ rest → before + line_count (map note_in old) ≡ all → before + note.lines + line_count (map note_in rest) ≡ all
counted-next before all old rest note e h =
    let s = ap (λ (ns : List PieceRefusals). line_count (map note_in ns)) e ∙ sum_by-cons (λ (n : Noted). n.lines) (note_in note) (map note_in rest) in
    omega (arith, s, h)

well-next : (old rest : List PieceRefusals) (note : PieceRefusals) → old ≡ note ∷ rest → All IsWellNumbered (map note_in old) → All IsWellNumbered (note_in note ∷ map note_in rest)
well-next old rest note e h = subst (λ (ns : List PieceRefusals). All IsWellNumbered (map note_in ns)) e h

pub well-rest : (old rest : List PieceRefusals) (note : PieceRefusals) → old ≡ note ∷ rest → All IsWellNumbered (map note_in old) → All IsWellNumbered (map note_in rest)
well-rest old rest note e h = All-tail IsWellNumbered (note_in note) (map note_in rest) (well-next old rest note e h)

-- the numbers of the note's lines behind those before fit their type
pub fits-next : (before all : ℕ) (old rest : List PieceRefusals) (note : PieceRefusals) → old ≡ note ∷ rest → before + line_count (map note_in old) ≡ all → all < 2 ^ 63 → All IsWellNumbered (map note_in old)
    → All (λ line. before + line.0 < 2 ^ 64) note.refused
fits-next before all old rest note e h few well =
    let counted = counted-next before all old rest note e h in
    All-weaker (λ line. line.0 ≤ note.lines) (λ line. before + line.0 < 2 ^ 64) (λ line l. omega (arith, l, counted, few)) note.refused (well-next old rest note e well 0 (note_in note) (omega arith))

-- the lines so far with those of the note, and those of the rest
pub lines-next : (before : ℕ) (so_far new all : List (ℕ × LineFault)) (old rest : List PieceRefusals) (note : PieceRefusals) → old ≡ note ∷ rest
    → new ≡ so_far ++ map (λ line. (before + line.0, line.1)) note.refused → so_far ++ refused_lines_from before (map note_in old) ≡ all
    → new ++ refused_lines_from (before + note.lines) (map note_in rest) ≡ all
lines-next before so_far new all old rest note e is h =
    let left = refused_lines_from (before + note.lines) (map note_in rest) in
    ap (λ ls. ls ++ left) is
    ∙ append_assoc so_far (map (λ line. (before + line.0, line.1)) note.refused) left
    ∙ ap (λ (ns : List PieceRefusals). so_far ++ refused_lines_from before (map note_in ns)) (sym e)
    ∙ h
