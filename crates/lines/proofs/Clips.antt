-- The lines of a clipped input.
use Rattle.std.proofs.Common.{◌≡◌, ◌<◌, ◌≤◌, ◌+◌, ◌-◌, ◌==◌, ℕ, zero, suc, Bool, true, false, cond, nat_lt, List, [], ◌∷◌, length, map, take, refl, sym, ap, ◌∙◌, arith, Err, filter_map, option_map, length-take}
use Rattle.std.proofs.lemmas.List.{take_all, length-map}
use Rattle.std.proofs.lemmas.List.Splits.{length-slice_split}
use Rattle.std.proofs.lemmas.Bool.Decides.{nat_tests}
use Rattle.std.specs.List.{onto_first, enumerate_from}
use Rattle.semantics.specs.Columns.{Field}
use Rattle.semantics.specs.Lines.{line_feed, lines, without_empty_last}
use Rattle.semantics.specs.Records.{line_results, valid_records, refused_lines, max_line_len, reading, record_of, decode_line}
use Rattle.semantics.specs.declared.line_fault.LineFault.TheVariants.{TooLong}
use Rattle.std.specs.Result.{result_err, result_ok}
use Rattle.lines.specs.Clip.{parts, clip_from, clipped_len, clip_lines}

abbrev is_feed : ℕ → Bool
is_feed b = b == line_feed

-- each part is cut, the first of them to what is left of it
abbrev cut_parts : (most so_far : ℕ) → List (List ℕ) → List (List ℕ)
cut_parts most so_far [] = []
cut_parts most so_far (part ∷ more) = take (most - so_far) part ∷ map (take most) more

cut_parts-all : (most : ℕ) (ps : List (List ℕ)) → cut_parts most 0 ps ≡ map (take most) ps
cut_parts-all most [] = refl
cut_parts-all most (part ∷ more) = ap (λ n. take n part ∷ map (take most) more) (let e : most - 0 ≡ most = omega arith in e)

take-nil : (n : ℕ) → take {A = ℕ} n [] ≡ []
take-nil zero = refl
take-nil (suc n) = refl

cut_parts-kept : (most so_far x : ℕ) (ps : List (List ℕ)) → so_far < most → 0 < length ps
    → onto_first x (cut_parts most (so_far + 1) ps) ≡ cut_parts most so_far (onto_first x ps)
cut_parts-kept most so_far x [] h l = absurd (omega arith)
cut_parts-kept most so_far x (part ∷ more) h l =
    ap (λ n. take n (x ∷ part) ∷ map (take most) more) (let e : suc (most - (so_far + 1)) ≡ most - so_far = omega arith in e)

cut_parts-discarded : (most so_far x : ℕ) (ps : List (List ℕ)) → most ≤ so_far → 0 < length ps
    → cut_parts most so_far ps ≡ cut_parts most so_far (onto_first x ps)
cut_parts-discarded most so_far x [] h l = absurd (omega arith)
cut_parts-discarded most so_far x (part ∷ more) h l =
    let none : most - so_far ≡ 0 = omega arith in
    ap (λ n. take n part ∷ map (take most) more) none ∙ ap (λ n. take n (x ∷ part) ∷ map (take most) more) (sym none)

length-parts : (s : List ℕ) → 0 < length (parts s)
length-parts s = omega (arith, length-slice_split is_feed s)

-- one more byte in front
parts-step : (most so_far x : ℕ) (s : List ℕ) (feed keeps : Bool) → is_feed x ≡ feed → nat_lt so_far most ≡ keeps
    → parts (clip_from most 0 s) ≡ cut_parts most 0 (parts s)
    → parts (clip_from most (so_far + 1) s) ≡ cut_parts most (so_far + 1) (parts s)
    → parts (clip_from most so_far s) ≡ cut_parts most so_far (parts s)
    → parts (cond feed (x ∷ clip_from most 0 s) (cond keeps (x ∷ clip_from most (so_far + 1) s) (clip_from most so_far s)))
    ≡ cut_parts most so_far (cond feed ([] ∷ parts s) (onto_first x (parts s)))
parts-step most so_far x s true keeps f k new kept discarded =
    ap (λ b. cond b ([] ∷ parts (clip_from most 0 s)) (onto_first x (parts (clip_from most 0 s)))) f
    ∙ ap (λ ps. [] ∷ ps) (new ∙ cut_parts-all most (parts s))
    ∙ ap (λ p. p ∷ map (take most) (parts s)) (sym (take-nil (most - so_far)))
parts-step most so_far x s false true f k new kept discarded =
    ap (λ b. cond b ([] ∷ parts (clip_from most (so_far + 1) s)) (onto_first x (parts (clip_from most (so_far + 1) s)))) f
    ∙ ap (onto_first x) kept
    ∙ cut_parts-kept most so_far x (parts s) (grind (arith, nat_tests)) (length-parts s)
parts-step most so_far x s false false f k new kept discarded =
    discarded ∙ cut_parts-discarded most so_far x (parts s) (grind (arith, nat_tests)) (length-parts s)

parts-clip_from : (most so_far : ℕ) (s : List ℕ) → parts (clip_from most so_far s) ≡ cut_parts most so_far (parts s)
parts-clip_from most so_far [] = ap (λ p. p ∷ []) (sym (take-nil (most - so_far)))
parts-clip_from most so_far (x ∷ s) =
    parts-step most so_far x s (is_feed x) (nat_lt so_far most) refl refl (parts-clip_from most 0 s) (parts-clip_from most (so_far + 1) s) (parts-clip_from most so_far s)

not_zero : (n : ℕ) → (suc n == 0) ≡ false
not_zero n = grind (arith, nat_tests)

-- a part that is cut is empty only where it was
last-cut : (most : ℕ) (part : List ℕ) → 0 < most
    → cond (length (take most part) == 0) [] (take most part ∷ []) ≡ map (take most) (cond (length part == 0) [] (part ∷ []))
last-cut zero part h = absurd (omega arith)
last-cut (suc n) [] h = refl
last-cut (suc n) (x ∷ xs) h =
    ap (λ b. cond b [] ((x ∷ take n xs) ∷ [])) (not_zero (length (take n xs)))
    ∙ ap (λ b. map (take (suc n)) (cond b [] ((x ∷ xs) ∷ []))) (sym (not_zero (length xs)))

without_empty_last-cut : (most : ℕ) (ps : List (List ℕ)) → 0 < most → without_empty_last (map (take most) ps) ≡ map (take most) (without_empty_last ps)
without_empty_last-cut most [] h = refl
without_empty_last-cut most (part ∷ []) h = last-cut most part h
without_empty_last-cut most (part ∷ next ∷ more) h = ap (λ ls. take most part ∷ ls) (without_empty_last-cut most (next ∷ more) h)

-- the lines of a clipped input are the lines, each cut
lines-clip_from : (most : ℕ) (s : List ℕ) → 0 < most → lines (clip_from most 0 s) ≡ map (take most) (lines s)
lines-clip_from most s h =
    ap without_empty_last (parts-clip_from most 0 s ∙ cut_parts-all most (parts s)) ∙ without_empty_last-cut most (parts s) h

pub parts-clip : (s : List ℕ) → parts (clip_lines s) ≡ map (take clipped_len) (parts s)
parts-clip s = parts-clip_from clipped_len 0 s ∙ cut_parts-all clipped_len (parts s)

pub lines-clip : (s : List ℕ) → lines (clip_lines s) ≡ map (take clipped_len) (lines s)
lines-clip s = lines-clip_from clipped_len s (omega arith)

pub count-clip : (s : List ℕ) → length (lines (clip_lines s)) ≡ length (lines s)
count-clip s = ap length (lines-clip s) ∙ length-map (lines s) (take clipped_len)

-- ---- how a cut line is decoded

decoded_by_length : (fields : List Field) (line : List ℕ) (is_long : Bool) → nat_lt max_line_len (length line) ≡ is_long
    → decode_line fields (take clipped_len line) ≡ decode_line fields line
decoded_by_length fields line true h =
    let long : max_line_len < length line = grind (arith, nat_tests) in
    let cut : length (take clipped_len line) ≡ clipped_len = omega (arith, length-take clipped_len line) in
    let still : nat_lt max_line_len (length (take clipped_len line)) ≡ true = grind (arith, nat_tests) in
    ap (λ b. cond b (Err TooLong) (record_of fields (reading (take clipped_len line)))) still
    ∙ sym (ap (λ b. cond b (Err TooLong) (record_of fields (reading line))) h)
decoded_by_length fields line false h =
    let short : length line ≤ clipped_len = grind (arith, nat_tests) in
    ap (decode_line fields) (take_all clipped_len line short)

decoded-cut : (fields : List Field) (line : List ℕ) → decode_line fields (take clipped_len line) ≡ decode_line fields line
decoded-cut fields line = decoded_by_length fields line (nat_lt max_line_len (length line)) refl

all_decoded-cut : (fields : List Field) (ls : List (List ℕ)) → map (decode_line fields) (map (take clipped_len) ls) ≡ map (decode_line fields) ls
all_decoded-cut fields [] = refl
all_decoded-cut fields (line ∷ ls) = cc (decoded-cut fields line, all_decoded-cut fields ls)

answers-clip : (fields : List Field) (s : List ℕ) → line_results fields (clip_lines s) ≡ line_results fields s
answers-clip fields s = ap (map (decode_line fields)) (lines-clip s) ∙ all_decoded-cut fields (lines s)

pub valid-clip : (fields : List Field) (s : List ℕ) → valid_records fields (clip_lines s) ≡ valid_records fields s
valid-clip fields s = ap (filter_map result_ok) (answers-clip fields s)

pub refused-clip : (fields : List Field) (s : List ℕ) → refused_lines fields (clip_lines s) ≡ refused_lines fields s
refused-clip fields s = ap (λ found. filter_map (λ p. option_map (λ fault. (p.0, fault)) (result_err p.1)) (enumerate_from 1 found)) (answers-clip fields s)
