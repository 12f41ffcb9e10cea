-- The lines of an input whose front is whole lines.
use Rattle.std.proofs.Common.{◌≡◌, ◌+◌, ℕ, suc, inl, inr, List, [], ◌∷◌, ◌++◌, length, map, filter_map, option_map, Option, Result, Ok, Err, refl, sym, ap, ◌∙◌, arith, append_assoc}
use Rattle.std.proofs.lemmas.List.{map-append, length-map}
use Rattle.std.proofs.lemmas.List.Elements.{filter_map-append}
use Rattle.std.specs.List.{enumerate_from}
use Rattle.std.specs.Result.{result_err, result_ok}
use Rattle.semantics.specs.Values.{Datum}
use Rattle.semantics.specs.Columns.{Field}
use Rattle.semantics.specs.declared.line_fault.LineFault.{LineFault}
use Rattle.semantics.specs.Records.{line_results, valid_records, refused_lines, decode_line}
use Rattle.semantics.specs.Lines.{line_feed, lines}
use Rattle.lines.specs.Pieces.{AreWholeLines, EndsInFeed}
use Rattle.lines.proofs.Splits.{lines-append}

lines-front : (front rest : List ℕ) → EndsInFeed front → lines (front ++ rest) ≡ lines front ++ lines rest
lines-front front rest e =
    ap (λ xs. lines (xs ++ rest)) e.is
    ∙ ap lines (append_assoc e.front (line_feed ∷ []) rest)
    ∙ lines-append e.front rest
    ∙ ap (λ xs. lines xs ++ lines rest) (sym e.is)

answers-front : (fields : List Field) (front rest : List ℕ) → EndsInFeed front → line_results fields (front ++ rest) ≡ line_results fields front ++ line_results fields rest
answers-front fields front rest e = ap (map (decode_line fields)) (lines-front front rest e) ∙ map-append (decode_line fields) (lines front) (lines rest)

valid-front : (fields : List Field) (front rest : List ℕ) → EndsInFeed front → valid_records fields (front ++ rest) ≡ valid_records fields front ++ valid_records fields rest
valid-front fields front rest e = ap (filter_map result_ok) (answers-front fields front rest e) ∙ filter_map-append result_ok (line_results fields front) (line_results fields rest)

-- ---- numbers

abbrev Answer : Type 0
Answer = Result (List Datum) LineFault

abbrev fault_at : ℕ × Answer → Option (ℕ × LineFault)
fault_at p = option_map (λ fault. (p.0, fault)) (result_err p.1)

abbrev shift : ℕ → ℕ × LineFault → ℕ × LineFault
shift n line = (n + line.0, line.1)

abbrev refused_from : ℕ → List Answer → List (ℕ × LineFault)
refused_from n found = filter_map fault_at (enumerate_from n found)

refused_from-append : (n : ℕ) (xs ys : List Answer) → refused_from n (xs ++ ys) ≡ refused_from n xs ++ refused_from (n + length xs) ys
refused_from-append n [] ys = ap (λ m. refused_from m ys) (let e : n ≡ n + 0 = omega arith in e)
refused_from-append n (Ok value ∷ xs) ys =
    refused_from-append (n + 1) xs ys ∙ ap (λ m. refused_from (n + 1) xs ++ refused_from m ys) (let e : n + 1 + length xs ≡ n + suc (length xs) = omega arith in e)
refused_from-append n (Err fault ∷ xs) ys =
    ap (λ ls. (n, fault) ∷ ls)
    (refused_from-append (n + 1) xs ys ∙ ap (λ m. refused_from (n + 1) xs ++ refused_from m ys) (let e : n + 1 + length xs ≡ n + suc (length xs) = omega arith in e))

refused_from-shift : (k n : ℕ) (xs : List Answer) → refused_from (k + n) xs ≡ map (shift k) (refused_from n xs)
refused_from-shift k n [] = refl
refused_from-shift k n (Ok value ∷ xs) = ap (λ m. refused_from m xs) (let e : k + n + 1 ≡ k + (n + 1) = omega arith in e) ∙ refused_from-shift k (n + 1) xs
refused_from-shift k n (Err fault ∷ xs) =
    ap (λ ls. (k + n, fault) ∷ ls) (ap (λ m. refused_from m xs) (let e : k + n + 1 ≡ k + (n + 1) = omega arith in e) ∙ refused_from-shift k (n + 1) xs)

refused-front : (fields : List Field) (front rest : List ℕ) → EndsInFeed front
    → refused_lines fields (front ++ rest) ≡ refused_lines fields front ++ map (shift (length (lines front))) (refused_lines fields rest)
refused-front fields front rest e =
    ap (refused_from 1) (answers-front fields front rest e)
    ∙ refused_from-append 1 (line_results fields front) (line_results fields rest)
    ∙ ap (λ m. refused_lines fields front ++ refused_from m (line_results fields rest)) (let n : 1 + length (line_results fields front) ≡ length (lines front) + 1 = omega (arith, length-map (lines front) (decode_line fields)) in n)
    ∙ ap (λ ls. refused_lines fields front ++ ls) (refused_from-shift (length (lines front)) 1 (line_results fields rest))

-- ---- a front of no bytes, or one that ends in a line feed

shift-none : (found : List (ℕ × LineFault)) → found ≡ map (shift 0) found
shift-none [] = refl
shift-none (line ∷ found) = ap (λ n. (n, line.1) ∷ found) (let e : line.0 ≡ 0 + line.0 = omega arith in e) ∙ ap (λ ls. shift 0 line ∷ ls) (shift-none found)

pub lines-whole_lines : (front rest : List ℕ) → AreWholeLines front → lines (front ++ rest) ≡ lines front ++ lines rest
lines-whole_lines front rest (inl none) = ap (λ bytes. lines (bytes ++ rest)) none ∙ ap (λ bytes. lines bytes ++ lines rest) (sym none)
lines-whole_lines front rest (inr feed) = lines-front front rest feed

pub valid-whole_lines : (fields : List Field) (front rest : List ℕ) → AreWholeLines front → valid_records fields (front ++ rest) ≡ valid_records fields front ++ valid_records fields rest
valid-whole_lines fields front rest (inl none) = ap (λ bytes. valid_records fields (bytes ++ rest)) none ∙ ap (λ bytes. valid_records fields bytes ++ valid_records fields rest) (sym none)
valid-whole_lines fields front rest (inr feed) = valid-front fields front rest feed

pub refused-whole_lines : (fields : List Field) (front rest : List ℕ) → AreWholeLines front
    → refused_lines fields (front ++ rest) ≡ refused_lines fields front ++ map (shift (length (lines front))) (refused_lines fields rest)
refused-whole_lines fields front rest (inl none) =
    ap (λ bytes. refused_lines fields (bytes ++ rest)) none
    ∙ shift-none (refused_lines fields rest)
    ∙ ap (λ bytes. refused_lines fields bytes ++ map (shift (length (lines bytes))) (refused_lines fields rest)) (sym none)
refused-whole_lines fields front rest (inr feed) = refused-front fields front rest feed
