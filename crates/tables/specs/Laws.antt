-- What pieces come to keeps the laws of a work. What is proved here stands beside the definitions
-- since a job cites it.
use Rattle.std.proofs.Common.{◌≡◌, ◌+◌, ◌≤◌, ℕ, List, ◌∷◌, ◌++◌, zero, suc, length, map, filter_map, option_map, Result, Ok, Err, refl, sym, ap, ◌∙◌, arith, append_assoc, length-append, []}
use Rattle.std.proofs.lemmas.List.Sums.{sum_by-append}
use Rattle.std.proofs.lemmas.Grind.{flat_map-append}
use Rattle.std.proofs.lemmas.List.{map-append, length-map}
use Rattle.std.proofs.lemmas.List.Elements.{filter-append}
use Rattle.std.specs.Cmp.{IsTotalOrder, nat_cmp_total, on_total, then_total}
use Rattle.std.specs.Cmp.Lexicographic.{lists_total}
use Rattle.std.specs.FinMap.{IsAntisymmetric, nat_cmp-IsAntisymmetric, slice_cmp-IsAntisymmetric}
use Rattle.std.specs.List.{enumerate_from, sum_by}
use Rattle.std.specs.Ordering.{nat_cmp, ordering_then}
use Rattle.std.specs.Result.{result_err}
use Rattle.std.specs.declared.cmp.Ordering.{Ordering}
use Rattle.std.specs.declared.cmp.Ordering.TheVariants.{Less, Equal, Greater}
use Rattle.semantics.specs.Columns.{Field}
use Rattle.semantics.specs.Conditions.{is_kept, kept_records}
use Rattle.semantics.specs.ResultRows.{aggregate_functions}
use Rattle.semantics.specs.Groups.{Record}
use Rattle.semantics.specs.Lines.{lines}
use Rattle.semantics.specs.Lists.{sorted_by}
use Rattle.semantics.specs.Records.{line_results, decode_line, refused_lines, valid_records}
use Rattle.semantics.specs.Sets.{grouping_places, sets_of}
use Rattle.semantics.specs.Values.{Datum}
use Rattle.semantics.specs.declared.line_fault.LineFault.{LineFault}
use Rattle.semantics.specs.declared.line_fault.LineFault.TheVariants.{TooLong, NoJson, NoObject, BadValue}
use Rattle.query_plan.specs.Planned.{PlannedQuery}
use Rattle.query_resolve.specs.Functions.{indexed_functions}
use Rattle.pool.specs.Lawful.{Lawful}
use Rattle.group_tables.specs.Bags.{SameBag}
use Rattle.group_tables.specs.Table.{table_of}
use Rattle.group_tables.proofs.AnyOrder.{table-same}
use Rattle.group_tables.proofs.Bags.{bag-filter, bag-flat_map, bag-map, length-bag}
use Rattle.group_tables.proofs.GroupsLaw.{table-is, table_of-is}
use Rattle.group_tables.proofs.Joint.{table_of-append}
use Rattle.group_tables.proofs.Sorting.{in_order-same, sum_by-in_order}
use Rattle.tables.specs.Functions.{filter_texts}
use Rattle.tables.specs.Jobs.{reduction_of}
use Rattle.tables.specs.Notes.{Noted, fault_number, line_order, note_of, note_order}
use Rattle.tables.specs.Partials.{both, none, of_pieces}
use Rattle.tables.specs.Pieces.{IndexedPiece, all_lines, records_of, refused_lines_within}

-- ---- what pieces have, joined

pub records-append : (fields : List Field) (pieces more : List IndexedPiece) → records_of fields (pieces ++ more) ≡ records_of fields pieces ++ records_of fields more
records-append fields pieces more = flat_map-append (λ piece. valid_records fields piece.bytes) pieces more

pub kept-append : (plan : PlannedQuery) (rows more : List Record)
    → kept_records plan.fields plan.query (rows ++ more) ≡ kept_records plan.fields plan.query rows ++ kept_records plan.fields plan.query more
kept-append plan rows more = filter-append (is_kept plan.fields plan.query) rows more

pub lines-append : (pieces more : List IndexedPiece) → length (all_lines (pieces ++ more)) ≡ length (all_lines pieces) + length (all_lines more)
lines-append pieces more = ap length (flat_map-append (λ piece. lines piece.bytes) pieces more) ∙ length-append (all_lines pieces) (all_lines more)

pub refused-append : (fields : List Field) (pieces more : List IndexedPiece)
    → length (refused_lines_within fields (pieces ++ more)) ≡ length (refused_lines_within fields pieces) + length (refused_lines_within fields more)
refused-append fields pieces more =
    ap length (flat_map-append (λ piece. refused_lines fields piece.bytes) pieces more) ∙ length-append (refused_lines_within fields pieces) (refused_lines_within fields more)

few-faults : (n : ℕ) (rs : List (Result (List Datum) LineFault))
    → length {A = ℕ × LineFault} (filter_map (λ p. option_map (λ fault. (p.0, fault)) (result_err p.1)) (enumerate_from n rs)) ≤ length rs
few-faults n [] = omega arith
few-faults n (Ok row ∷ rs) = let h = few-faults (n + 1) rs in omega (arith, h)
few-faults n (Err fault ∷ rs) = let h = few-faults (n + 1) rs in omega (arith, h)

-- ---- the order of notes

abbrev fault_of : ℕ → LineFault
fault_of zero = TooLong
fault_of (suc zero) = NoJson
fault_of (suc (suc zero)) = NoObject
fault_of (suc (suc (suc column))) = BadValue column

-- Of each fault its number tells it.
fault-told : (fault : LineFault) → fault_of (fault_number fault) ≡ fault
fault-told TooLong = refl
fault-told NoJson = refl
fault-told NoObject = refl
fault-told (BadValue column) = refl

both-tie : (r s : Ordering) → ordering_then r s ≡ Equal → (r ≡ Equal) × (s ≡ Equal)
both-tie Less s e = (e, absurd cc)
both-tie Equal s e = (refl, e)
both-tie Greater s e = (e, absurd cc)

line-total : IsTotalOrder line_order
line-total = then_total (on_total (λ line. line.0) nat_cmp_total) (on_total (λ line. fault_number line.1) nat_cmp_total)

line-antisymmetric : IsAntisymmetric line_order
line-antisymmetric l m e =
    let parts = both-tie (nat_cmp l.0 m.0) (nat_cmp (fault_number l.1) (fault_number m.1)) e in
    let number = nat_cmp-IsAntisymmetric l.0 m.0 parts.0 in
    let fault = sym (fault-told l.1) ∙ ap fault_of (nat_cmp-IsAntisymmetric (fault_number l.1) (fault_number m.1) parts.1) ∙ fault-told m.1 in
    λ i. (number i, fault i)

pub note-total : IsTotalOrder note_order
note-total = then_total (on_total (λ note. note.index) nat_cmp_total) (then_total (on_total (λ note. note.lines) nat_cmp_total) (on_total (λ note. note.refused) (lists_total line-total)))

pub note-antisymmetric : IsAntisymmetric note_order
note-antisymmetric a b e =
    let first = both-tie (nat_cmp a.index b.index) _ e in
    let rest = both-tie (nat_cmp a.lines b.lines) _ first.1 in
    let index = nat_cmp-IsAntisymmetric a.index b.index first.0 in
    let count = nat_cmp-IsAntisymmetric a.lines b.lines rest.0 in
    let refused = slice_cmp-IsAntisymmetric line-antisymmetric a.refused b.refused rest.1 in
    λ i. record { index = index i; lines = count i; refused = refused i }

pub notes-same : (notes others : List Noted) → SameBag notes others → sorted_by note_order notes ≡ sorted_by note_order others
notes-same notes others = in_order-same note-total note-antisymmetric notes others

-- ---- pieces in any order

pub pieces-same : (plan : PlannedQuery) (pieces others : List IndexedPiece) → SameBag pieces others → of_pieces plan pieces ≡ of_pieces plan others
pieces-same plan pieces others same =
    let grouping = grouping_places plan.fields plan.query in
    let fs = aggregate_functions plan.fields plan.query in
    let first = kept_records plan.fields plan.query (records_of plan.fields pieces) in
    let second = kept_records plan.fields plan.query (records_of plan.fields others) in
    let records : SameBag first second = bag-filter (is_kept plan.fields plan.query) (records_of plan.fields pieces) (records_of plan.fields others)
    (bag-flat_map (λ piece. valid_records plan.fields piece.bytes) pieces others same) in
    let table = table-is grouping fs (table_of grouping fs first) second (table-same grouping fs (table_of grouping fs first) first second records (table_of-is grouping fs first)) in
    let count = length-bag (all_lines pieces) (all_lines others) (bag-flat_map (λ piece. lines piece.bytes) pieces others same) in
    let refused = length-bag (refused_lines_within plan.fields pieces) (refused_lines_within plan.fields others)
    (bag-flat_map (λ piece. refused_lines plan.fields piece.bytes) pieces others same) in
    let notes = notes-same (map (note_of plan.fields) pieces) (map (note_of plan.fields) others) (bag-map (note_of plan.fields) pieces others same) in
    λ i. record {
      sets = sets_of plan.fields plan.query;
      functions = indexed_functions plan.fields plan.query;
      filters = filter_texts plan;
      table = table i;
      lines = count i;
      refused = refused i;
      notes = notes i;
    }

-- ---- pieces joined

pub pieces-append : (plan : PlannedQuery) (xs ys : List IndexedPiece) → of_pieces plan (xs ++ ys) ≡ both (of_pieces plan xs) (of_pieces plan ys)
pieces-append plan xs ys =
    let grouping = grouping_places plan.fields plan.query in
    let fs = aggregate_functions plan.fields plan.query in
    let note = note_of plan.fields in
    let rows : kept_records plan.fields plan.query (records_of plan.fields (xs ++ ys))
    ≡ kept_records plan.fields plan.query (records_of plan.fields xs) ++ kept_records plan.fields plan.query (records_of plan.fields ys) =
    ap (kept_records plan.fields plan.query) (records-append plan.fields xs ys) ∙ kept-append plan (records_of plan.fields xs) (records_of plan.fields ys) in
    let first = kept_records plan.fields plan.query (records_of plan.fields xs) in
    let second = kept_records plan.fields plan.query (records_of plan.fields ys) in
    let table = ap (table_of grouping fs) rows ∙ table_of-append grouping fs first second in
    let count = lines-append xs ys in
    let refused = refused-append plan.fields xs ys in
    let notes = notes-same (map note (xs ++ ys)) (sorted_by note_order (map note xs) ++ sorted_by note_order (map note ys)) (λ w.
    let a = ap (sum_by w) (map-append note xs ys) in
    let b = sum_by-append w (map note xs) (map note ys) in
    let c = sum_by-append w (sorted_by note_order (map note xs)) (sorted_by note_order (map note ys)) in
    let d = sum_by-in_order note_order w (map note xs) in
    let e = sum_by-in_order note_order w (map note ys) in
    omega (arith, a, b, c, d, e)) in
    λ i. record {
      sets = sets_of plan.fields plan.query;
      functions = indexed_functions plan.fields plan.query;
      filters = filter_texts plan;
      table = table i;
      lines = count i;
      refused = refused i;
      notes = notes i;
    }

-- ---- the laws of a monoid

pub unit-both : (plan : PlannedQuery) (xs : List IndexedPiece) → both (none plan) (of_pieces plan xs) ≡ of_pieces plan xs
unit-both plan xs = sym (pieces-append plan [] xs)

pub both-flip : (plan : PlannedQuery) (xs ys : List IndexedPiece) → both (of_pieces plan xs) (of_pieces plan ys) ≡ both (of_pieces plan ys) (of_pieces plan xs)
both-flip plan xs ys =
    sym (pieces-append plan xs ys)
    ∙ pieces-same plan (xs ++ ys) (ys ++ xs) (λ w. let a = sum_by-append w xs ys in let b = sum_by-append w ys xs in omega (arith, a, b))
    ∙ pieces-append plan ys xs

pub both-assoc : (plan : PlannedQuery) (xs ys zs : List IndexedPiece)
    → both (both (of_pieces plan xs) (of_pieces plan ys)) (of_pieces plan zs) ≡ both (of_pieces plan xs) (both (of_pieces plan ys) (of_pieces plan zs))
both-assoc plan xs ys zs =
    ap (λ m. both m (of_pieces plan zs)) (sym (pieces-append plan xs ys))
    ∙ sym (pieces-append plan (xs ++ ys) zs)
    ∙ ap (of_pieces plan) (append_assoc xs ys zs)
    ∙ pieces-append plan xs (ys ++ zs)
    ∙ ap (both (of_pieces plan xs)) (pieces-append plan ys zs)

-- ---- the laws of a work

-- Pieces have at most as many refused lines as lines.
few-refused : (fields : List Field) (pieces : List IndexedPiece) → length (refused_lines_within fields pieces) ≤ length (all_lines pieces)
few-refused fields [] = omega arith
few-refused fields (p ∷ pieces) =
    let more = few-refused fields pieces in
    let here = few-faults 1 (line_results fields p.bytes) in
    let many = length-map (lines p.bytes) (decode_line fields) in
    let a = length-append (refused_lines fields p.bytes) (refused_lines_within fields pieces) in
    let b = length-append (lines p.bytes) (all_lines pieces) in
    omega (arith, more, here, many, a, b)

-- Whatever the pieces are, by their numbers.
pub results_lawful : (plan : PlannedQuery) (piece : ℕ → IndexedPiece) → Lawful (reduction_of plan piece)
results_lawful plan piece = record {
  unit_fits = ([], refl);
  piece_fits = λ i. (piece i ∷ [], refl);
  combined_fits = λ a b x y. (x.0 ++ y.0, ap (λ m. both m b) x.1 ∙ ap (both (of_pieces plan x.0)) y.1 ∙ sym (pieces-append plan x.0 y.0));
  associative = λ a b c x y z. rw (x.1, y.1, z.1) (both-assoc plan x.0 y.0 z.0);
  commutative = λ a b x y. rw (x.1, y.1) (both-flip plan x.0 y.0);
  unit_combined = λ a x. rw (x.1) (unit-both plan x.0);
  unit_weight = refl;
  weight_adds = λ a b x y. refl;
  unit_load = refl;
  load_adds = λ a b x y. refl;
  weight_at_most_load = λ a x. rw (x.1) (few-refused plan.fields x.0);
}
