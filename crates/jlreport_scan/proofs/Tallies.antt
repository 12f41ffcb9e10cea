-- The number of lines of an input, and of refused ones.
use Rattle.std.proofs.Common.{◌≡◌, ◌∙◌, ◌==◌, ◌+◌, ◌≤◌, ◌<◌, ℕ, suc, Bool, true, false, cond, List, [], ◌∷◌, ◌++◌, length, map, filter_map, option_map, Result, Ok, Err, refl, sym, ap, arith}
use Rattle.std.proofs.lemmas.List.{length-append, length-map, map-append}
use Rattle.std.proofs.lemmas.List.Elements.{filter_map-append}
use Rattle.std.proofs.lemmas.List.Splits.{length-slice_split}
use Rattle.std.specs.List.{enumerate_from, onto_first, slice_split}
use Rattle.std.specs.Result.{result_err}
use Rattle.semantics.specs.Values.{Datum}
use Rattle.semantics.specs.Columns.{Field}
use Rattle.semantics.specs.declared.line_fault.LineFault.{LineFault}
use Rattle.semantics.specs.Lines.{line_feed, lines, without_empty_last}
use Rattle.semantics.specs.Records.{decode_line, line_results, refused_lines}
use Rattle.tables.specs.Partials.{StandsForInput}
use Rattle.tables.specs.Pieces.{IndexedPiece, all_lines, refused_lines_within}
use Rattle.tables.specs.States.{PartialState}
use Rattle.tables.proofs.Cutting.{cut-lines}
use Rattle.query_plan.specs.Planned.{PlannedQuery}

-- ---- an input has at most as many lines as bytes

shorter : (b : Bool) (part : List ℕ) → length (cond b [] (part ∷ [])) ≤ 1
shorter true part = omega arith
shorter false part = omega arith

onto-le : (x : ℕ) (parts : List (List ℕ)) (n : ℕ) → 0 < length parts → length (without_empty_last parts) ≤ n
    → length (without_empty_last (onto_first x parts)) ≤ suc n
onto-le x [] n some h = absurd (omega (arith, some))
onto-le x (part ∷ []) n some h = omega (arith, shorter (length (x ∷ part) == 0) (x ∷ part))
onto-le x (part ∷ next ∷ more) n some h = omega (arith, h)

behind-le : (parts : List (List ℕ)) (n : ℕ) → 0 < length parts → length (without_empty_last parts) ≤ n
    → length (without_empty_last ([] ∷ parts)) ≤ suc n
behind-le [] n some h = absurd (omega (arith, some))
behind-le (part ∷ more) n some h = omega (arith, h)

either-le : (b : Bool) (x : ℕ) (parts : List (List ℕ)) (n : ℕ) → 0 < length parts → length (without_empty_last parts) ≤ n
    → length (without_empty_last (cond b ([] ∷ parts) (onto_first x parts))) ≤ suc n
either-le true x parts n some h = behind-le parts n some h
either-le false x parts n some h = onto-le x parts n some h

pub length-lines : (bytes : List ℕ) → length (lines bytes) ≤ length bytes
length-lines [] = omega arith
length-lines (x ∷ bytes) = either-le (x == line_feed) x (slice_split (λ b. b == line_feed) bytes) (length bytes)
    (let some = length-slice_split (λ b. b == line_feed) bytes in omega (arith, some)) (length-lines bytes)

-- ---- there are as many refused lines as faults

-- the faults of lines, without their numbers
abbrev pub faults_of : List Field → List (List ℕ) → List LineFault
faults_of fields ls = filter_map result_err (map (decode_line fields) ls)

numbered : (n : ℕ) (rs : List (Result (List Datum) LineFault)) → length {A = ℕ × LineFault} (filter_map (λ p. option_map (λ fault. (p.0, fault)) (result_err p.1)) (enumerate_from n rs)) ≡ length (filter_map result_err rs)
numbered n [] = refl
numbered n (Ok r ∷ rs) = numbered (n + 1) rs
numbered n (Err fault ∷ rs) = ap suc (numbered (n + 1) rs)

length-refused : (fields : List Field) (input : List ℕ) → length (refused_lines fields input) ≡ length (faults_of fields (lines input))
length-refused fields input = numbered 1 (line_results fields input)

faults-append : (fields : List Field) (xs ys : List (List ℕ)) → faults_of fields (xs ++ ys) ≡ faults_of fields xs ++ faults_of fields ys
faults-append fields xs ys = ap (filter_map result_err) (map-append (decode_line fields) xs ys) ∙ filter_map-append result_err (map (decode_line fields) xs) (map (decode_line fields) ys)

pub length-within : (fields : List Field) (pieces : List IndexedPiece) → length (refused_lines_within fields pieces) ≡ length (faults_of fields (all_lines pieces))
length-within fields [] = refl
length-within fields (piece ∷ pieces) =
    let both = ap length (faults-append fields (lines piece.bytes) (all_lines pieces)) in
    omega (
      arith,
      both,
      length-append (refused_lines fields piece.bytes) (refused_lines_within fields pieces),
      length-append (faults_of fields (lines piece.bytes)) (faults_of fields (all_lines pieces)),
      length-refused fields piece.bytes,
      length-within fields pieces,
    )

-- the pieces that have the lines of an input have as many refused lines
pub refused-counted : (fields : List Field) (pieces : List IndexedPiece) (input : List ℕ) → all_lines pieces ≡ lines input
    → length (refused_lines_within fields pieces) ≡ length (refused_lines fields input)
refused-counted fields pieces input same =
    length-within fields pieces ∙ ap (λ ls. length (faults_of fields ls)) same ∙ sym (length-refused fields input)

few-faults : (rs : List (Result (List Datum) LineFault)) → length (filter_map result_err rs) ≤ length rs
few-faults [] = omega arith
few-faults (Ok r ∷ rs) = omega (arith, few-faults rs)
few-faults (Err fault ∷ rs) = omega (arith, few-faults rs)

-- an input has at most as many refused lines as bytes
pub few-refused : (fields : List Field) (input : List ℕ) → length (refused_lines fields input) ≤ length input
few-refused fields input =
    omega (arith, length-refused fields input, few-faults (map (decode_line fields) (lines input)), length-map (lines input) (decode_line fields), length-lines input)

-- ---- the numbers of a result over an input

pub lines-of-input : (plan : PlannedQuery) (partial : PartialState) (input : List ℕ) → StandsForInput plan partial input → partial.lines ≡ length (lines input)
lines-of-input plan partial input s = ap (λ (p : PartialState). p.lines) s.stands ∙ ap length (cut-lines s.pieces s.cut.feeds ∙ ap lines s.cut.joined)

pub refused-of-input : (plan : PlannedQuery) (partial : PartialState) (input : List ℕ) → StandsForInput plan partial input → partial.refused ≡ length (refused_lines plan.fields input)
refused-of-input plan partial input s = ap (λ (p : PartialState). p.refused) s.stands ∙ refused-counted plan.fields s.pieces input (cut-lines s.pieces s.cut.feeds ∙ ap lines s.cut.joined)
