-- Notes in their order: those of rising indexes stand so already.
use Rattle.std.proofs.Common.{◌≡◌, ◌<◌, ℕ, List, [], ◌∷◌, map, nat_eq, sym, ap, ◌∙◌}
use Rattle.std.specs.List.{AllByRecursion, IsDistinct}
use Rattle.std.specs.Cmp.Lexicographic.{slice_cmp}
use Rattle.std.specs.Ordering.{is_gt, nat_cmp, ordering_then}
use Rattle.semantics.specs.Lists.{sorted_by}
use Rattle.semantics.specs.declared.line_fault.LineFault.{LineFault}
use Rattle.group_tables.specs.Ascending.{Ascends, NoneBefore}
use Rattle.group_tables.specs.Bags.{SameBag}
use Rattle.group_tables.proofs.Sorting.{ascends-in_order, one-ascending, sum_by-in_order}
use Rattle.tables.specs.Laws.{note-antisymmetric, note-total, notes-same}
use Rattle.tables.specs.Inside.Notes.{AreLinesOf}
use Rattle.tables.specs.Notes.{Noted, line_order, note_order, refused_lines_from}
use Rattle.tables.proofs.Orders.{Rises, less-from, rises-ordered}

abbrev index_of : Noted → ℕ
index_of note = note.index

none-before : (a : Noted) (notes : List Noted) → AllByRecursion (λ (b : Noted). a.index < b.index) notes → NoneBefore note_order a notes
none-before a [] up = tt
none-before a (b ∷ notes) up = (ap (λ r. is_gt (ordering_then r (ordering_then (nat_cmp a.lines b.lines) (slice_cmp line_order a.refused b.refused)))) (less-from a.index b.index up.0), none-before a notes up.1)

ascends-rising : (notes : List Noted) → Rises index_of notes → Ascends note_order notes
ascends-rising [] up = tt
ascends-rising (a ∷ notes) up = (none-before a notes up.0, ascends-rising notes up.1)

-- of rising indexes there is one list
pub rising-same : (notes others : List Noted) → Rises index_of notes → Rises index_of others → SameBag notes others → notes ≡ others
rising-same notes others a b same = one-ascending note-total note-antisymmetric notes others (ascends-rising notes a) (ascends-rising others b) same

pub rising-in_order : (notes : List Noted) → Rises index_of notes → sorted_by note_order notes ≡ notes
rising-in_order notes up =
    one-ascending note-total note-antisymmetric (sorted_by note_order notes) notes (ascends-in_order note-total notes) (ascends-rising notes up)
    (λ w. sum_by-in_order note_order w notes)

-- where no index stands twice, the lines of notes are numbered in the order of these
pub lines-own : (notes : List Noted) (found : List (ℕ × LineFault)) → IsDistinct nat_eq (map index_of (sorted_by note_order notes)) → AreLinesOf notes found
    → found ≡ refused_lines_from 0 (sorted_by note_order notes)
lines-own notes found own are =
    let rise = rises-ordered index_of (sorted_by note_order notes) are.ordered own (λ w. sum_by-in_order note_order w notes ∙ are.same w) are.ascending in
    are.numbered ∙ ap (refused_lines_from 0) (sym (notes-same notes are.ordered are.same ∙ rising-in_order are.ordered rise))
