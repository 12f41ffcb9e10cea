-- A result over the front of an input and one over its rest, put together.
use Rattle.std.proofs.Common.{◌≡◌, ◌+◌, ◌<◌, ◌≤◌, ◌==◌, ℕ, zero, suc, Bool, true, false, cond, nat_eq, nat_le, Decides, List, [], ◌∷◌, ◌++◌, All, length, map, refl, sym, ap, subst, ◌∙◌, arith, append-nil, length-append}
use Rattle.std.proofs.lemmas.Bool.Decides.{Decides-by_and, nat_tests}
use Rattle.std.proofs.lemmas.List.{map-append, length-map}
use Rattle.std.proofs.lemmas.List.Elements.{All-append, All-cons, All-from_recursion, All-head, All-map, All-nil, All-same, All-tail, All-weaker, recursion_from_All}
use Rattle.std.proofs.lemmas.List.Sums.{sum_by-cons}
use Rattle.std.proofs.lemmas.List.Splits.{length-slice_split}
use Rattle.std.specs.List.{IsDistinct, list_all, onto_first, slice_split}
use Rattle.semantics.specs.Columns.{Field}
use Rattle.semantics.specs.declared.line_fault.LineFault.{LineFault}
use Rattle.semantics.specs.Records.{valid_records, refused_lines}
use Rattle.semantics.specs.Lines.{line_feed, lines, without_empty_last}
use Rattle.lines.specs.Pieces.{AreWholeLines}
use Rattle.lines.proofs.Fronts.{valid-whole_lines, lines-whole_lines, refused-whole_lines}
use Rattle.group_tables.specs.Bags.{SameBag}
use Rattle.semantics.specs.Lists.{sorted_by}
use Rattle.tables.specs.Inside.Notes.{AreLinesBehind, AreLinesOf}
use Rattle.tables.specs.Notes.{IsWellNumbered, Noted, line_count, note_of, note_order, refused_lines_from}
use Rattle.tables.specs.Partials.{note_of_one, notes_of_one, one_piece, whole_piece}
use Rattle.tables.specs.Pieces.{IndexedPiece, IsCutInto, all_lines, records_of, refused_lines_within}
use Rattle.tables.proofs.Bags.{all-decided}
use Rattle.tables.proofs.Cutting.{cut-lines, cut-records, cut-refused}
use Rattle.tables.proofs.Numbered.{lines-in_order}

abbrev shift : ℕ → ℕ × LineFault → ℕ × LineFault
shift n line = (n + line.0, line.1)

-- ---- lines numbered behind others

shift-none : (found : List (ℕ × LineFault)) → map (shift 0) found ≡ found
shift-none [] = refl
shift-none (line ∷ found) =
    ap (λ n. (n, line.1) ∷ map (shift 0) found) (let e : 0 + line.0 ≡ line.0 = omega arith in e) ∙ ap (λ ls. line ∷ ls) (shift-none found)

shift-shift : (m n : ℕ) (found : List (ℕ × LineFault)) → map (shift (m + n)) found ≡ map (shift m) (map (shift n) found)
shift-shift m n [] = refl
shift-shift m n (line ∷ found) =
    ap (λ k. (k, line.1) ∷ map (shift (m + n)) found) (let e : m + n + line.0 ≡ m + (n + line.0) = omega arith in e)
    ∙ ap (λ ls. shift m (shift n line) ∷ ls) (shift-shift m n found)

numbered-shift : (m n : ℕ) (notes : List Noted) → refused_lines_from (m + n) notes ≡ map (shift m) (refused_lines_from n notes)
numbered-shift m n [] = refl
numbered-shift m n (note ∷ notes) =
    let rest = refused_lines_from (n + note.lines) notes in
    ap (λ k. map (shift (m + n)) note.refused ++ refused_lines_from k notes) (let e : m + n + note.lines ≡ m + (n + note.lines) = omega arith in e)
    ∙ ap (λ ls. map (shift (m + n)) note.refused ++ ls) (numbered-shift m (n + note.lines) notes)
    ∙ ap (λ ls. ls ++ map (shift m) rest) (shift-shift m n note.refused)
    ∙ sym (map-append (shift m) (map (shift n) note.refused) rest)

-- behind so many lines each number is that much greater
pub numbered-behind : (before : ℕ) (notes : List Noted) → refused_lines_from before notes ≡ map (shift before) (refused_lines_from 0 notes)
numbered-behind before notes = ap (λ n. refused_lines_from n notes) (let e : before ≡ before + 0 = omega arith in e) ∙ numbered-shift before 0 notes

-- the lines of the first note keep their numbers
pub first-numbered : (note : Noted) (notes : List Noted) → refused_lines_from 0 (note ∷ notes) ≡ note.refused ++ refused_lines_from note.lines notes
first-numbered note notes =
    ap (λ ls. ls ++ refused_lines_from (0 + note.lines) notes) (shift-none note.refused)
    ∙ ap (λ n. note.refused ++ refused_lines_from n notes) (let e : 0 + note.lines ≡ note.lines = omega arith in e)

-- ---- no number is above that of the lines

numbers-within : (before : ℕ) (notes : List Noted) → All IsWellNumbered notes → All (λ line. line.0 ≤ before + line_count notes) (refused_lines_from before notes)
numbers-within before [] well = All-nil (λ line. line.0 ≤ before + line_count [])
numbers-within before (note ∷ notes) well =
    let sum : line_count (note ∷ notes) ≡ note.lines + line_count notes = sum_by-cons (λ (n : Noted). n.lines) note notes in
    All-append (λ line. line.0 ≤ before + line_count (note ∷ notes)) (map (shift before) note.refused) (refused_lines_from (before + note.lines) notes)
    (All-map (λ line. line.0 ≤ before + line_count (note ∷ notes)) (shift before) note.refused
    (All-weaker (λ line. line.0 ≤ note.lines) (λ line. before + line.0 ≤ before + line_count (note ∷ notes)) (λ line l. omega (arith, sum, l)) note.refused (All-head IsWellNumbered note notes well)))
    (All-weaker (λ line. line.0 ≤ before + note.lines + line_count notes) (λ line. line.0 ≤ before + line_count (note ∷ notes)) (λ line l. omega (arith, sum, l)) (refused_lines_from (before + note.lines) notes)
    (numbers-within (before + note.lines) notes (All-tail IsWellNumbered note notes well)))

abbrev is_well_numbered : Noted → Bool
is_well_numbered note = list_all (λ line. nat_le line.0 note.lines) note.refused

up_to-Decides : (m n : ℕ) → Decides (nat_le m n) (m ≤ n)
up_to-Decides m n = (λ e. grind (arith, nat_tests, e), λ l. grind (arith, nat_tests, l))

well-Decides : (note : Noted) → Decides (is_well_numbered note) (IsWellNumbered note)
well-Decides note =
    Decides-by_and (λ line. nat_le line.0 note.lines) (λ line. line.0 ≤ note.lines) (list_all (λ line. nat_le line.0 note.lines)) (λ line. up_to-Decides line.0 note.lines) refl (λ _ _. refl) note.refused

well-same : (notes ordered : List Noted) → SameBag notes ordered → All IsWellNumbered notes → All IsWellNumbered ordered
well-same notes ordered same well =
    All-from_recursion IsWellNumbered ordered (all-decided is_well_numbered IsWellNumbered well-Decides ordered notes (λ f. sym (same f)) (recursion_from_All IsWellNumbered notes well))

noted-same : (notes ordered : List Noted) → SameBag notes ordered → line_count ordered ≡ line_count notes
noted-same notes ordered same = sym (same (λ note. note.lines))

pub lines-within : (notes : List Noted) (found : List (ℕ × LineFault)) → All IsWellNumbered notes → AreLinesOf notes found → All (λ line. line.0 ≤ line_count notes) found
lines-within notes found well are =
    let sum = noted-same notes are.ordered are.same in
    All-same (λ line. line.0 ≤ line_count notes) found (refused_lines_from 0 are.ordered) are.numbered
    (All-weaker (λ line. line.0 ≤ 0 + line_count are.ordered) (λ line. line.0 ≤ line_count notes) (λ line l. omega (arith, sum, l)) (refused_lines_from 0 are.ordered)
    (numbers-within 0 are.ordered (well-same notes are.ordered are.same well)))

pub behind-within : (most before : ℕ) (notes : List Noted) (front all : List (ℕ × LineFault)) → All IsWellNumbered notes → All (λ line. line.0 ≤ most) front
    → AreLinesBehind before notes front all → before ≤ most → All (λ line. line.0 ≤ most + line_count notes) all
behind-within most before notes front all well low are few =
    All-same (λ line. line.0 ≤ most + line_count notes) all (front ++ map (shift before) are.lines) are.behind
    (All-append (λ line. line.0 ≤ most + line_count notes) front (map (shift before) are.lines)
    (All-weaker (λ line. line.0 ≤ most) (λ line. line.0 ≤ most + line_count notes) (λ line l. omega (arith, l)) front low)
    (All-map (λ line. line.0 ≤ most + line_count notes) (shift before) are.lines
    (All-weaker (λ line. line.0 ≤ line_count notes) (λ line. before + line.0 ≤ most + line_count notes) (λ line l. omega (arith, l, few)) are.lines (lines-within notes are.lines well are.of_notes))))

-- ---- the pieces of an input come to what the input comes to

pub count-lines : (input : List ℕ) (pieces : List IndexedPiece) → IsCutInto input pieces → length (all_lines pieces) ≡ length (lines input)
count-lines input pieces c = ap length (cut-lines pieces c.feeds ∙ ap lines c.joined)

count-numbered : (fields : List Field) (before : ℕ) (pieces : List IndexedPiece) → length (refused_lines_from before (map (note_of fields) pieces)) ≡ length (refused_lines_within fields pieces)
count-numbered fields before [] = refl
count-numbered fields before (p ∷ more) =
    let found = refused_lines fields p.bytes in
    let both = length-append (map (shift before) found) (refused_lines_from (before + length (lines p.bytes)) (map (note_of fields) more)) in
    let first = length-map found (shift before) in
    let rest = count-numbered fields (before + length (lines p.bytes)) more in
    let all = length-append found (refused_lines_within fields more) in
    omega (arith, both, first, rest, all)

count-refused : (fields : List Field) (input : List ℕ) (pieces : List IndexedPiece) → IsCutInto input pieces → length (refused_lines_within fields pieces) ≡ length (refused_lines fields input)
count-refused fields input pieces c = sym (count-numbered fields 0 pieces) ∙ ap length (cut-refused fields input pieces c)

pub refused-in_order : (fields : List Field) (input : List ℕ) (pieces : List IndexedPiece) (notes : List Noted) (found : List (ℕ × LineFault)) → IsCutInto input pieces
    → SameBag (map (note_of fields) pieces) notes → AreLinesOf notes found → found ≡ refused_lines fields input
refused-in_order fields input pieces notes found c same are = lines-in_order fields pieces notes found c.in_order same are ∙ cut-refused fields input pieces c

-- ---- a front that is whole lines, and the rest, are one piece

pub followed-records : (fields : List Field) (front back : List ℕ) (pieces more : List IndexedPiece) → AreWholeLines front → IsCutInto front pieces → IsCutInto back more
    → records_of fields (whole_piece (front ++ back)) ≡ records_of fields pieces ++ records_of fields more
followed-records fields front back pieces more whole c d =
    append-nil (valid_records fields (front ++ back))
    ∙ valid-whole_lines fields front back whole
    ∙ ap (λ rows. rows ++ valid_records fields back) (sym (cut-records fields front pieces c))
    ∙ ap (λ rows. records_of fields pieces ++ rows) (sym (cut-records fields back more d))

pub whole-lines : (input : List ℕ) → length (all_lines (whole_piece input)) ≡ length (lines input)
whole-lines input = ap length (append-nil (lines input))

pub followed-lines : (front back : List ℕ) (pieces more : List IndexedPiece) → AreWholeLines front → IsCutInto front pieces → IsCutInto back more
    → length (lines (front ++ back)) ≡ length (all_lines pieces) + length (all_lines more)
followed-lines front back pieces more whole c d =
    let joined = ap length (lines-whole_lines front back whole) in
    let both = length-append (lines front) (lines back) in
    let first = count-lines front pieces c in
    let rest = count-lines back more d in
    omega (arith, joined, both, first, rest)

pub followed-count : (fields : List Field) (front back : List ℕ) (pieces more : List IndexedPiece) → AreWholeLines front → IsCutInto front pieces → IsCutInto back more
    → length (refused_lines_within fields (whole_piece (front ++ back))) ≡ length (refused_lines_within fields pieces) + length (refused_lines_within fields more)
followed-count fields front back pieces more whole c d =
    let joined = ap length (append-nil (refused_lines fields (front ++ back)) ∙ refused-whole_lines fields front back whole) in
    let both = length-append (refused_lines fields front) (map (shift (length (lines front))) (refused_lines fields back)) in
    let same = length-map (refused_lines fields back) (shift (length (lines front))) in
    let first = count-refused fields front pieces c in
    let rest = count-refused fields back more d in
    omega (arith, joined, both, same, first, rest)

-- ---- bytes behind a front that is whole lines

-- an input is cut into the one piece that is all of it
pub one-piece : (input : List ℕ) → IsCutInto input (whole_piece input)
one-piece input = record { in_order = λ k lt. absurd (omega (arith, lt)); joined = append-nil input; feeds = tt }

pub numbers-behind : (before count : ℕ) (found more all : List (ℕ × LineFault)) → All (λ line. line.0 ≤ before) found → All (λ line. line.0 ≤ count) more
    → all ≡ found ++ map (shift before) more → All (λ line. line.0 ≤ before + count) all
numbers-behind before count found more all low within behind =
    All-same (λ line. line.0 ≤ before + count) all (found ++ map (shift before) more) behind
    (All-append (λ line. line.0 ≤ before + count) found (map (shift before) more)
    (All-weaker (λ line. line.0 ≤ before) (λ line. line.0 ≤ before + count) (λ line l. omega (arith, l)) found low)
    (All-map (λ line. line.0 ≤ before + count) (shift before) more
    (All-weaker (λ line. line.0 ≤ count) (λ line. before + line.0 ≤ before + count) (λ line l. omega (arith, l)) more within)))

-- an input is cut into the one piece that it is
pub one-cut : (input : List ℕ) → IsCutInto input (one_piece input)
one-cut [] = record { in_order = λ k lt. absurd (omega (arith, lt)); joined = refl; feeds = tt }
one-cut (byte ∷ bytes) = one-piece (byte ∷ bytes)

-- ---- an input as one piece

-- the records, the lines and the refused lines of an input as one piece are those of its pieces
pub one-records : (fields : List Field) (input : List ℕ) (pieces : List IndexedPiece) → IsCutInto input pieces → records_of fields (one_piece input) ≡ records_of fields pieces
one-records fields [] pieces c = sym (cut-records fields [] pieces c)
one-records fields (byte ∷ bytes) pieces c = append-nil (valid_records fields (byte ∷ bytes)) ∙ sym (cut-records fields (byte ∷ bytes) pieces c)

pub one-lines : (input : List ℕ) (pieces : List IndexedPiece) → IsCutInto input pieces → length (all_lines (one_piece input)) ≡ length (all_lines pieces)
one-lines [] pieces c = sym (count-lines [] pieces c)
one-lines (byte ∷ bytes) pieces c = whole-lines (byte ∷ bytes) ∙ sym (count-lines (byte ∷ bytes) pieces c)

pub one-refused : (fields : List Field) (input : List ℕ) (pieces : List IndexedPiece) → IsCutInto input pieces → length (refused_lines_within fields (one_piece input)) ≡ length (refused_lines_within fields pieces)
one-refused fields [] pieces c = sym (count-refused fields [] pieces c)
one-refused fields (byte ∷ bytes) pieces c = ap length (append-nil (refused_lines fields (byte ∷ bytes))) ∙ sym (count-refused fields (byte ∷ bytes) pieces c)

some-parts : (b : ℕ) (ends : Bool) (ps : List (List ℕ)) → 0 < length ps → 0 < length (without_empty_last (cond ends ([] ∷ ps) (onto_first b ps)))
some-parts b ends [] h = absurd (omega (arith, h))
some-parts b true (p ∷ ps) h = omega arith
some-parts b false (p ∷ []) h = subst (λ (none : Bool). 0 < length (cond none [] ((b ∷ p) ∷ []))) (let e : false ≡ (length (b ∷ p) == 0) = grind (arith, nat_tests) in e) (omega arith)
some-parts b false (p ∷ q ∷ ps) h = omega arith

-- an input with a byte has a line
some-line : (b : ℕ) (bytes : List ℕ) → 0 < length (lines (b ∷ bytes))
some-line b bytes = some-parts b (b == line_feed) (slice_split (λ x. x == line_feed) bytes) (let n = length-slice_split (λ (x : ℕ). x == line_feed) bytes in omega (arith, n))

-- ---- the notes of one piece

pub one-sound : (count : ℕ) (found : List (ℕ × LineFault)) (notes : List Noted) → All (λ line. line.0 ≤ count) found → notes ≡ notes_of_one count found
    → (line_count notes ≡ count) × All IsWellNumbered notes
one-sound zero found notes low is = (ap line_count is, subst (λ (ns : List Noted). All IsWellNumbered ns) (sym is) (All-nil IsWellNumbered))
one-sound (suc more) found notes low is =
    let note = note_of_one (suc more) found in (
      ap line_count is ∙ (let sum = sum_by-cons (λ (n : Noted). n.lines) note [] in omega (arith, sum)),
      subst (λ (ns : List Noted). All IsWellNumbered ns) (sym is) (All-cons IsWellNumbered note [] low (All-nil IsWellNumbered)),
    )

-- they stand in their order
pub one-in_order : (count : ℕ) (found : List (ℕ × LineFault)) → sorted_by note_order (notes_of_one count found) ≡ notes_of_one count found
one-in_order zero found = refl
one-in_order (suc more) found = refl

pub some-notes : (count : ℕ) (found : List (ℕ × LineFault)) → 0 < count → notes_of_one count found ≡ note_of_one count found ∷ []
some-notes zero found some = absurd (omega (arith, some))
some-notes (suc more) found some = refl

-- those of an input
pub one-noted : (fields : List Field) (input : List ℕ) → notes_of_one (length (lines input)) (refused_lines fields input) ≡ sorted_by note_order (map (note_of fields) (one_piece input))
one-noted fields [] = refl
one-noted fields (b ∷ bytes) = some-notes (length (lines (b ∷ bytes))) (refused_lines fields (b ∷ bytes)) (some-line b bytes)
