-- The lines of grouping sets, one more at a time.
use Rattle.std.proofs.Common.{◌≡◌, ◌∙◌, ◌+◌, ℕ, zero, suc, List, [], ◌∷◌, ◌++◌, Some, take, slice_get, option_map, ap, sym, add-one, append_assoc, arith}
use Rattle.std.proofs.lemmas.List.{append-nil}
use Rattle.std.specs.Prelude.{codes, decimal}
use Rattle.std.specs.List.{enumerate_from, flat_map}
use Rattle.semantics.specs.Columns.{Field}
use Rattle.semantics.specs.Canonical.{set_text}
use Rattle.semantics.specs.Explanation.{set_line}

-- a line of an index and a text
abbrev line : ℕ → List ℕ → List ℕ
line index text = decimal index ++ codes ": " ++ text ++ codes "\n"

-- the lines of so many sets, of which the first has the index n
abbrev pub lines_from : List Field → ℕ → ℕ → List (List ℕ) → List ℕ
lines_from fields n count sets = flat_map (set_line fields) (enumerate_from n (take count sets))

next : (fields : List Field) (n : ℕ) (sets : List (List ℕ)) (i : ℕ) (text : List ℕ) → Some text ≡ option_map (set_text fields) (slice_get sets i)
    → lines_from fields n (suc i) sets ≡ lines_from fields n i sets ++ line (n + i) text
next fields n [] i text e = absurd cc
next fields n (set ∷ sets) zero text e =
    let same : set_text fields set ≡ text = cc in
    let number : n ≡ n + 0 = omega arith in
    append-nil (line n (set_text fields set)) ∙ ap (line n) same ∙ ap (λ k. line k text) number
next fields n (set ∷ sets) (suc i) text e =
    let first = set_line fields (n, set) in
    let number : n + 1 + i ≡ n + suc i = omega arith in
    ap (λ rest. first ++ rest) (next fields (n + 1) sets i text e)
    ∙ sym (append_assoc first (lines_from fields (n + 1) i sets) (line (n + 1 + i) text))
    ∙ ap (λ k. first ++ lines_from fields (n + 1) i sets ++ line k text) number

-- the same line, as the loop writes it
line-parts : (index : ℕ) (text : List ℕ) → line index text ≡ decimal index ++ (codes ": " ++ (text ++ codes "\n"))
line-parts index text = append_assoc (decimal index ++ codes ": ") text (codes "\n") ∙ append_assoc (decimal index) (codes ": ") (text ++ codes "\n")

-- a turn of the loop over the sets
pub lines-next : (fields : List Field) (sets : List (List ℕ)) (i : ℕ) (text : List ℕ) → Some text ≡ option_map (set_text fields) (slice_get sets i)
    → lines_from fields 0 (i + 1) sets ≡ lines_from fields 0 i sets ++ (decimal i ++ (codes ": " ++ (text ++ codes "\n")))
lines-next fields sets i text e =
    let number : 0 + i ≡ i = omega arith in
    ap (λ k. lines_from fields 0 k sets) (add-one i) ∙ next fields 0 sets i text e
    ∙ ap (λ k. lines_from fields 0 i sets ++ line k text) number ∙ ap (λ last. lines_from fields 0 i sets ++ last) (line-parts i text)
