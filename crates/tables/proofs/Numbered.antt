-- The numbers of refused lines.
use Rattle.std.proofs.Common.{◌≡◌, ◌+◌, ◌<◌, nat_eq, nat_lt, ℕ, true, false, cond, List, [], ◌∷◌, ◌++◌, length, map, filter, filter_map, Result, Ok, Err, refl, sym, ap, subst, ◌∙◌, sum_by, arith, append-nil, append_assoc, length-append}
use Rattle.std.proofs.lemmas.List.Sums.{sum_by-cons}
use Rattle.std.proofs.lemmas.Bool.Decides.{nat_tests}
use Rattle.std.proofs.lemmas.Grind.{flat_map-append}
use Rattle.std.proofs.lemmas.List.Elements.{filter-append}
use Rattle.std.proofs.lemmas.Map.Keys.{sorted_from_strictly_increasing}
use Rattle.std.specs.List.{AllByRecursion, IsDistinct, enumerate_from, flat_map}
use Rattle.std.specs.List.Sorted.{IsStrictlyIncreasing}
use Rattle.semantics.specs.Values.{Datum}
use Rattle.semantics.specs.Columns.{Field}
use Rattle.semantics.specs.declared.line_fault.LineFault.{LineFault}
use Rattle.semantics.specs.Records.{refused_lines, decode_line}
use Rattle.semantics.specs.Lines.{lines}
use Rattle.group_tables.specs.Bags.{SameBag}
use Rattle.group_tables.proofs.Bags.{bag-map, sum_by-flat_map}
use Rattle.semantics.specs.Lists.{sorted_by}
use Rattle.tables.specs.Inside.Notes.{AreLinesOf}
use Rattle.tables.specs.Notes.{Noted, note_of, note_order, refused_lines_from}
use Rattle.tables.specs.Pieces.{AreInOrder, AreNumbered, HaveOwnIndexes, IndexedPiece, all_lines, pieces_before, refused_lines_numbered}
use Rattle.tables.proofs.Bags.{sum_by-same}
use Rattle.tables.proofs.Cutting.{numbered-lines, refused_from}
use Rattle.tables.proofs.NotesInOrder.{rising-in_order, rising-same}
use Rattle.tables.proofs.Orders.{Rises, distinct-from_rises, rises-from_sorted, rises-ordered, strict-from_rises}
use Rattle.tables.proofs.Reading.{numbered_fault}

abbrev index_of : IndexedPiece → ℕ
index_of piece = piece.index

-- each of these pieces has a smaller index than each of the others
abbrev AreBelow : List IndexedPiece → List IndexedPiece → Type 0
AreBelow front rest = AllByRecursion (λ (p : IndexedPiece). AllByRecursion (λ (q : IndexedPiece). p.index < q.index) rest) front

below-true : (m n : ℕ) → m < n → nat_lt m n ≡ true
below-true m n l = grind (arith, nat_tests, l)

not-below : (m n : ℕ) → m < n → nat_lt n m ≡ false
not-below m n l = grind (arith, nat_tests, l)

not-itself : (n : ℕ) → nat_lt n n ≡ false
not-itself n = grind (arith, nat_tests)

all-before : (front : List IndexedPiece) (p : IndexedPiece) (more : List IndexedPiece) → AreBelow front (p ∷ more) → filter (λ q. nat_lt q.index p.index) front ≡ front
all-before [] p more b = refl
all-before (q ∷ front) p more b =
    ap (λ t. cond t (q ∷ filter (λ r. nat_lt r.index p.index) front) (filter (λ r. nat_lt r.index p.index) front)) (below-true q.index p.index b.0.0)
    ∙ ap (λ qs. q ∷ qs) (all-before front p more b.1)

none-before : (p : IndexedPiece) (more : List IndexedPiece) → AllByRecursion (λ (q : IndexedPiece). p.index < q.index) more → filter (λ q. nat_lt q.index p.index) more ≡ []
none-before p [] b = refl
none-before p (q ∷ more) b =
    ap (λ t. cond t (q ∷ filter (λ r. nat_lt r.index p.index) more) (filter (λ r. nat_lt r.index p.index) more)) (not-below p.index q.index b.0)
    ∙ none-before p more b.1

before-is : (front : List IndexedPiece) (p : IndexedPiece) (more : List IndexedPiece) → AreBelow front (p ∷ more) → AllByRecursion (λ (q : IndexedPiece). p.index < q.index) more
    → pieces_before p.index (front ++ p ∷ more) ≡ front
before-is front p more b up =
    filter-append (λ q. nat_lt q.index p.index) front (p ∷ more)
    ∙ ap (λ qs. qs ++ filter (λ q. nat_lt q.index p.index) (p ∷ more)) (all-before front p more b)
    ∙ ap (λ qs. front ++ qs) (ap (λ t. cond t (p ∷ filter (λ q. nat_lt q.index p.index) more) (filter (λ q. nat_lt q.index p.index) more)) (not-itself p.index) ∙ none-before p more up)
    ∙ append-nil front

below-tail : (front : List IndexedPiece) (p : IndexedPiece) (more : List IndexedPiece) → AreBelow front (p ∷ more) → AllByRecursion (λ (q : IndexedPiece). p.index < q.index) more → AreBelow (front ++ p ∷ []) more
below-tail [] p more b up = (up, tt)
below-tail (q ∷ front) p more b up = (b.0.1, below-tail front p more b.1 up)

abbrev shift : ℕ → ℕ × LineFault → ℕ × LineFault
shift n line = (n + line.0, line.1)

numbered-behind : (fields : List Field) (front rest whole : List IndexedPiece) → whole ≡ front ++ rest → AreBelow front rest → Rises index_of rest
    → refused_lines_from (length (all_lines front)) (map (note_of fields) rest) ≡ flat_map (λ piece. map (shift (length (all_lines (pieces_before piece.index whole)))) (refused_lines fields piece.bytes)) rest
numbered-behind fields front [] whole e b up = refl
numbered-behind fields front (p ∷ more) whole e b up =
    let before : pieces_before p.index whole ≡ front = ap (pieces_before p.index) e ∙ before-is front p more b up.0 in
    let longer : length (all_lines front) + length (lines p.bytes) ≡ length (all_lines (front ++ p ∷ [])) =
    sym (ap length (flat_map-append (λ piece. lines piece.bytes) front (p ∷ []) ∙ ap (λ ls. all_lines front ++ ls) (append-nil (lines p.bytes))) ∙ length-append (all_lines front) (lines p.bytes)) in
    ap (λ n. map (shift n) (refused_lines fields p.bytes) ++ refused_lines_from (length (all_lines front) + length (lines p.bytes)) (map (note_of fields) more)) (ap (λ qs. length (all_lines qs)) (sym before))
    ∙ ap (λ n. map (shift (length (all_lines (pieces_before p.index whole)))) (refused_lines fields p.bytes) ++ refused_lines_from n (map (note_of fields) more)) longer
    ∙ ap (λ ls. map (shift (length (all_lines (pieces_before p.index whole)))) (refused_lines fields p.bytes) ++ ls)
    (numbered-behind fields (front ++ p ∷ []) more whole (e ∙ sym (append_assoc front (p ∷ []) more)) (below-tail front p more b up.0) up.1)

-- numbered one piece after the other, each refused line has its number by the pieces with a smaller
-- index
numbered-rising : (fields : List Field) (pieces : List IndexedPiece) → Rises index_of pieces → refused_lines_from 0 (map (note_of fields) pieces) ≡ refused_lines_numbered fields pieces
numbered-rising fields pieces rise = numbered-behind fields [] pieces pieces refl tt rise

-- ---- notes

note_above : (fields : List Field) (p : IndexedPiece) (more : List IndexedPiece) → AllByRecursion (λ (q : IndexedPiece). p.index < q.index) more
    → AllByRecursion (λ (note : Noted). p.index < note.index) (map (note_of fields) more)
note_above fields p [] h = tt
note_above fields p (q ∷ more) h = (h.0, note_above fields p more h.1)

notes-rise : (fields : List Field) (pieces : List IndexedPiece) → Rises index_of pieces → Rises (λ (note : Noted). note.index) (map (note_of fields) pieces)
notes-rise fields [] h = tt
notes-rise fields (p ∷ more) h = (note_above fields p more h.0, notes-rise fields more h.1)

-- the lines of notes are those of rising pieces with these notes
lines-rising : (fields : List Field) (pieces : List IndexedPiece) (notes : List Noted) (lines : List (ℕ × LineFault)) → Rises index_of pieces
    → SameBag (map (note_of fields) pieces) notes → AreLinesOf notes lines → lines ≡ refused_lines_from 0 (map (note_of fields) pieces)
lines-rising fields pieces notes lines rise same are =
    let of_pieces = map (note_of fields) pieces in
    let up = notes-rise fields pieces rise in
    let bag : SameBag of_pieces are.ordered = λ f. same f ∙ are.same f in
    let ordered = rises-ordered (λ (note : Noted). note.index) of_pieces are.ordered (distinct-from_rises (λ (note : Noted). note.index) of_pieces up) bag are.ascending in
    are.numbered ∙ ap (refused_lines_from 0) (sym (rising-same of_pieces are.ordered up ordered bag))

rising-pieces : (pieces : List IndexedPiece) → AreInOrder pieces → Rises index_of pieces
rising-pieces pieces o = rises-from_sorted index_of pieces (sorted_from_strictly_increasing (map index_of pieces) o)

pub lines-in_order : (fields : List Field) (pieces : List IndexedPiece) (notes : List Noted) (lines : List (ℕ × LineFault)) → AreInOrder pieces
    → SameBag (map (note_of fields) pieces) notes → AreLinesOf notes lines → lines ≡ refused_lines_from 0 (map (note_of fields) pieces)
lines-in_order fields pieces notes lines o = lines-rising fields pieces notes lines (rising-pieces pieces o)

-- the notes of pieces that stand in their order
pub notes-in_order : (fields : List Field) (pieces : List IndexedPiece) → AreInOrder pieces → sorted_by note_order (map (note_of fields) pieces) ≡ map (note_of fields) pieces
notes-in_order fields pieces o = rising-in_order (map (note_of fields) pieces) (notes-rise fields pieces (rising-pieces pieces o))

-- none of their indexes stands twice
pub own-in_order : (fields : List Field) (pieces : List IndexedPiece) → AreInOrder pieces
    → IsDistinct nat_eq (map (λ (note : Noted). note.index) (sorted_by note_order (map (note_of fields) pieces)))
own-in_order fields pieces o =
    subst (λ (ns : List Noted). IsDistinct nat_eq (map (λ (note : Noted). note.index) ns)) (sym (notes-in_order fields pieces o))
    (distinct-from_rises (λ (note : Noted). note.index) (map (note_of fields) pieces) (notes-rise fields pieces (rising-pieces pieces o)))

pub numbered-in_order : (fields : List Field) (pieces : List IndexedPiece) → AreInOrder pieces → refused_lines_from 0 (map (note_of fields) pieces) ≡ refused_lines_numbered fields pieces
numbered-in_order fields pieces o = numbered-rising fields pieces (rising-pieces pieces o)

-- ---- pieces of which no index stands twice, put in order

abbrev insert : IndexedPiece → List IndexedPiece → List IndexedPiece
insert p [] = p ∷ []
insert p (q ∷ qs) = cond (nat_lt p.index q.index) (p ∷ q ∷ qs) (q ∷ insert p qs)

abbrev sorted : List IndexedPiece → List IndexedPiece
sorted [] = []
sorted (p ∷ ps) = insert p (sorted ps)

sum_by-inserted : (f : IndexedPiece → ℕ) (p : IndexedPiece) (qs : List IndexedPiece) → sum_by f (insert p qs) ≡ f p + sum_by f qs
sum_by-inserted f p [] = sum_by-cons f p []
sum_by-inserted f p (q ∷ qs) = elim (nat_lt p.index q.index) as (λ b. sum_by f (cond b (p ∷ q ∷ qs) (q ∷ insert p qs)) ≡ f p + sum_by f (q ∷ qs)) [
  | true ↦ sum_by-cons f p (q ∷ qs)
  | false ↦ omega (arith, sum_by-cons f q (insert p qs), sum_by-inserted f p qs, sum_by-cons f q qs)
]

bag-sorted : (ps : List IndexedPiece) → SameBag (sorted ps) ps
bag-sorted [] f = refl
bag-sorted (p ∷ ps) f = sum_by-inserted f p (sorted ps) ∙ ap (λ n. f p + n) (bag-sorted ps f) ∙ sym (sum_by-cons f p ps)

all-insert : (P : IndexedPiece → Type 0) (p : IndexedPiece) (qs : List IndexedPiece) → P p → AllByRecursion P qs → AllByRecursion P (insert p qs)
all-insert P p [] h all = (h, tt)
all-insert P p (q ∷ qs) h all = elim (nat_lt p.index q.index) as (λ b. AllByRecursion P (cond b (p ∷ q ∷ qs) (q ∷ insert p qs))) [
  | true ↦ (h, all)
  | false ↦ (all.0, all-insert P p qs h all.1)
]

above-too : (m n : ℕ) (qs : List IndexedPiece) → m < n → AllByRecursion (λ (q : IndexedPiece). n < q.index) qs → AllByRecursion (λ (q : IndexedPiece). m < q.index) qs
above-too m n [] l h = tt
above-too m n (q ∷ qs) l h = (omega (arith, l, h.0), above-too m n qs l h.1)

below-from : (m n : ℕ) → nat_lt m n ≡ true → m < n
below-from m n e = grind (arith, nat_tests, e)

above-from : (m n : ℕ) → nat_lt m n ≡ false → nat_eq m n ≡ false → n < m
above-from m n e f = grind (arith, nat_tests, e, f)

insert-rises : (p : IndexedPiece) (qs : List IndexedPiece) → AllByRecursion (λ (q : IndexedPiece). nat_eq p.index q.index ≡ false) qs → Rises index_of qs → Rises index_of (insert p qs)
insert-rises p [] apart rise = (tt, tt)
insert-rises p (q ∷ qs) apart rise = elim (nat_lt p.index q.index) as (λ b. nat_lt p.index q.index ≡ b → Rises index_of (cond b (p ∷ q ∷ qs) (q ∷ insert p qs))) [
  | true ↦ λ e. let l = below-from p.index q.index e in ((l, above-too p.index q.index qs l rise.0), rise)
  | false ↦ λ e. (all-insert (λ (r : IndexedPiece). q.index < r.index) p qs (above-from p.index q.index e apart.0) rise.0, insert-rises p qs apart.1 rise.1)
] refl

apart-pieces : (p : IndexedPiece) (ps : List IndexedPiece) → AllByRecursion (λ n. nat_eq p.index n ≡ false) (map index_of ps) → AllByRecursion (λ (q : IndexedPiece). nat_eq p.index q.index ≡ false) ps
apart-pieces p [] h = tt
apart-pieces p (q ∷ ps) h = (h.0, apart-pieces p ps h.1)

apart-sorted : (P : IndexedPiece → Type 0) (ps : List IndexedPiece) → AllByRecursion P ps → AllByRecursion P (sorted ps)
apart-sorted P [] h = tt
apart-sorted P (p ∷ ps) h = all-insert P p (sorted ps) h.0 (apart-sorted P ps h.1)

sorted-rises : (ps : List IndexedPiece) → HaveOwnIndexes ps → Rises index_of (sorted ps)
unfolding IsDistinct
sorted-rises [] d = tt
sorted-rises (p ∷ ps) d =
    insert-rises p (sorted ps) (apart-sorted (λ (q : IndexedPiece). nat_eq p.index q.index ≡ false) ps (apart-pieces p ps d.0)) (sorted-rises ps d.1)

-- ---- the refused lines by number do not depend on the order of the pieces

abbrev lines_below : ℕ → IndexedPiece → ℕ
lines_below index p = cond (nat_lt p.index index) (length (lines p.bytes)) 0

zero-more : (n : ℕ) → n ≡ 0 + n
zero-more n = omega arith

length-before : (index : ℕ) (ps : List IndexedPiece) → length (all_lines (pieces_before index ps)) ≡ sum_by (lines_below index) ps
length-before index [] = refl
length-before index (p ∷ ps) =
    (elim (nat_lt p.index index) as (λ b. length (all_lines (cond b (p ∷ pieces_before index ps) (pieces_before index ps))) ≡ cond b (length (lines p.bytes)) 0 + sum_by (lines_below index) ps) [
      | true ↦ length-append (lines p.bytes) (all_lines (pieces_before index ps)) ∙ ap (λ n. length (lines p.bytes) + n) (length-before index ps)
      | false ↦ length-before index ps ∙ zero-more (sum_by (lines_below index) ps)
    ]) ∙ sym (sum_by-cons (lines_below index) p ps)

abbrev shifted_of : List Field → List IndexedPiece → IndexedPiece → List (ℕ × LineFault)
shifted_of fields pieces piece = map (shift (length (all_lines (pieces_before piece.index pieces)))) (refused_lines fields piece.bytes)

numbered-same : (fields : List Field) (ps qs : List IndexedPiece) → SameBag ps qs → SameBag (refused_lines_numbered fields ps) (refused_lines_numbered fields qs)
numbered-same fields ps qs same = λ f.
    let before : (index : ℕ) → length (all_lines (pieces_before index ps)) ≡ length (all_lines (pieces_before index qs)) =
    λ index. length-before index ps ∙ same (lines_below index) ∙ sym (length-before index qs) in
    sum_by-flat_map f (shifted_of fields ps) ps
    ∙ sum_by-same (λ p. sum_by f (shifted_of fields ps p)) (λ p. sum_by f (shifted_of fields qs p)) ps (λ p. ap (λ n. sum_by f (map (shift n) (refused_lines fields p.bytes))) (before p.index))
    ∙ same (λ p. sum_by f (shifted_of fields qs p))
    ∙ sym (sum_by-flat_map f (shifted_of fields qs) qs)

-- ---- their numbers ascend

faults-above : (m n : ℕ) (rs : List (Result (List Datum) LineFault)) → m < n → AllByRecursion (λ (line : ℕ × LineFault). m < line.0) (filter_map numbered_fault (enumerate_from n rs))
faults-above m n [] l = tt
faults-above m n (Ok row ∷ rs) l = faults-above m (n + 1) rs (omega (arith, l))
faults-above m n (Err fault ∷ rs) l = (l, faults-above m (n + 1) rs (omega (arith, l)))

faults-rise : (n : ℕ) (rs : List (Result (List Datum) LineFault)) → Rises (λ (line : ℕ × LineFault). line.0) (filter_map numbered_fault (enumerate_from n rs))
faults-rise n [] = tt
faults-rise n (Ok row ∷ rs) = faults-rise (n + 1) rs
faults-rise n (Err fault ∷ rs) = (faults-above n (n + 1) rs (omega arith), faults-rise (n + 1) rs)

-- the lines of notes, where no index stands twice among the pieces
pub lines-numbered : (fields : List Field) (pieces : List IndexedPiece) (notes : List Noted) (lines : List (ℕ × LineFault)) → HaveOwnIndexes pieces
    → SameBag (map (note_of fields) pieces) notes → AreLinesOf notes lines → AreNumbered fields pieces lines
lines-numbered fields pieces notes lines own same are =
    let rise = sorted-rises pieces own in
    let bag = bag-sorted pieces in
    let is = lines-rising fields (sorted pieces) notes lines rise (λ f. bag-map (note_of fields) (sorted pieces) pieces bag f ∙ same f) are in
    let all = numbered-lines fields 0 (sorted pieces) in
    record {
      same = λ f. ap (sum_by f) (is ∙ numbered-rising fields (sorted pieces) rise) ∙ numbered-same fields (sorted pieces) pieces bag f;
      ascending = subst (λ (ls : List (ℕ × LineFault)). IsStrictlyIncreasing (map (λ line. line.0) ls)) (sym (is ∙ all))
          (strict-from_rises (λ (line : ℕ × LineFault). line.0) (refused_from fields (0 + 1) (all_lines (sorted pieces))) (faults-rise (0 + 1) (map (decode_line fields) (all_lines (sorted pieces)))));
    }
