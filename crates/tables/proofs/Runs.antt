-- Refused lines as runs of neighbours.
use Rattle.std.proofs.Common.{◌≡◌, ◌+◌, ◌<◌, ℕ, zero, suc, List, [], ◌∷◌, ◌++◌, All, length, map, take, set, get_or, slice_index_or, refl, sym, ap, subst, ◌∙◌, arith, append-nil, append_assoc, length-append}
use Rattle.std.proofs.lemmas.List.{get_or-append-add, get_or_append_left, map-append, set-get_or, take_more}
use Rattle.std.proofs.lemmas.List.Concat.{flat_map-append}
use Rattle.std.proofs.lemmas.List.Elements.{All-head}
use Rattle.semantics.specs.declared.line_fault.LineFault.{LineFault}
use Rattle.semantics.specs.declared.line_fault.LineFault.TheVariants.{TooLong}
use Rattle.tables.specs.declared.refusals.Run.{Run}
use Rattle.tables.specs.Inside.Refusals.{lines_of_run, lines_of_runs, neighbours}

abbrev shift : ℕ → ℕ × LineFault → ℕ × LineFault
shift n line = (n + line.0, line.1)

-- ---- one more line

neighbours-more : (fault : LineFault) (first count : ℕ) → neighbours fault first (suc count) ≡ neighbours fault first count ++ (first + count, fault) ∷ []
neighbours-more fault first zero = ap (λ n. (n, fault) ∷ []) (let e : first ≡ first + 0 = omega arith in e)
neighbours-more fault first (suc count) =
    ap (λ ls. (first, fault) ∷ ls)
    (neighbours-more fault (first + 1) count ∙ ap (λ n. neighbours fault (first + 1) count ++ (n, fault) ∷ []) (let e : first + 1 + count ≡ first + suc count = omega arith in e))

-- a run with one neighbour more
pub longer-run : (run : Run) (number : ℕ) (fault : LineFault) → number ≡ run.first + run.more + 1 → fault ≡ run.fault
    → lines_of_run (record { first = run.first; more = run.more + 1; fault = run.fault }) ≡ lines_of_run run ++ (number, fault) ∷ []
longer-run run number fault next same =
    ap (λ n. neighbours run.fault run.first (suc n)) (let e : run.more + 1 ≡ suc run.more = omega arith in e)
    ∙ neighbours-more run.fault run.first (suc run.more)
    ∙ ap (λ n. lines_of_run run ++ (n, run.fault) ∷ []) (let e : run.first + suc run.more ≡ number = omega (arith, next) in e)
    ∙ ap (λ f. lines_of_run run ++ (number, f) ∷ []) (sym same)

-- the last run with one line more
pub longer-last : (runs : List Run) (last : ℕ) (old new : Run) (line : ℕ × LineFault) → last + 1 ≡ length runs → old ≡ slice_index_or runs last old → lines_of_run new ≡ lines_of_run old ++ line ∷ []
    → lines_of_runs (set runs last new) ≡ lines_of_runs runs ++ line ∷ []
longer-last [] last old new line end at is = absurd (omega (arith, end))
longer-last (run ∷ []) zero old new line end at is =
    ap (λ ls. ls ++ []) (is ∙ ap (λ r. lines_of_run r ++ line ∷ []) at)
    ∙ append-nil (lines_of_run run ++ line ∷ [])
    ∙ ap (λ ls. ls ++ line ∷ []) (sym (append-nil (lines_of_run run)))
longer-last (run ∷ []) (suc last) old new line end at is = absurd (omega (arith, end))
longer-last (run ∷ next ∷ runs) zero old new line end at is = absurd (omega (arith, end))
longer-last (run ∷ next ∷ runs) (suc last) old new line end at is =
    ap (λ ls. lines_of_run run ++ ls) (longer-last (next ∷ runs) last old new line (omega (arith, end)) at is)
    ∙ sym (append_assoc (lines_of_run run) (lines_of_runs (next ∷ runs)) (line ∷ []))

-- a run that stays as it is
pub same-runs : (runs : List Run) (place : ℕ) (old new : Run) → old ≡ slice_index_or runs place old → new ≡ old → set runs place new ≡ runs
same-runs runs place old new at is = ap (set runs place) (is ∙ at) ∙ set-get_or runs place old

-- a run more
pub run-more : (runs : List Run) (run : Run) → lines_of_runs (runs ++ run ∷ []) ≡ lines_of_runs runs ++ lines_of_run run
run-more runs run = flat_map-append lines_of_run runs (run ∷ []) ∙ ap (λ ls. lines_of_runs runs ++ ls) (append-nil (lines_of_run run))

-- ---- numbers that are so much greater

neighbours-shifted : (before : ℕ) (fault : LineFault) (first count : ℕ) → neighbours fault (before + first) count ≡ map (shift before) (neighbours fault first count)
neighbours-shifted before fault first zero = refl
neighbours-shifted before fault first (suc count) =
    ap (λ ls. (before + first, fault) ∷ ls)
    (ap (λ n. neighbours fault n count) (let e : before + first + 1 ≡ before + (first + 1) = omega arith in e) ∙ neighbours-shifted before fault (first + 1) count)

-- some of the runs, and the next one behind them
pub runs-shifted : (before : ℕ) (front so_far new : List (ℕ × LineFault)) (runs : List Run) (i : ℕ) (d : Run) → i < length runs
    → so_far ≡ front ++ map (shift before) (lines_of_runs (take i runs)) → new ≡ so_far ++ map (shift before) (lines_of_run (get_or runs i d))
    → new ≡ front ++ map (shift before) (lines_of_runs (take (i + 1) runs))
runs-shifted before front so_far new runs i d lt held is =
    let run = get_or runs i d in
    let some = lines_of_runs (take i runs) in
    is
    ∙ ap (λ ls. ls ++ map (shift before) (lines_of_run run)) held
    ∙ append_assoc front (map (shift before) some) (map (shift before) (lines_of_run run))
    ∙ ap (λ ls. front ++ ls) (sym (map-append (shift before) some (lines_of_run run)))
    ∙ ap (λ ls. front ++ map (shift before) ls) (sym (run-more (take i runs) run))
    ∙ ap (λ rs. front ++ map (shift before) (lines_of_runs rs)) (sym (take_more runs i d lt))

-- a run whose first number is so much greater
pub run-shifted : (before : ℕ) (runs : List (ℕ × LineFault)) (run : Run)
    → runs ++ lines_of_run (record { first = before + run.first; more = run.more; fault = run.fault }) ≡ runs ++ map (shift before) (lines_of_run run)
run-shifted before runs run = ap (λ ls. runs ++ ls) (neighbours-shifted before run.fault run.first (suc run.more))

-- ---- what holds of each line

all-front : (P : ℕ × LineFault → Type 0) (xs ys : List (ℕ × LineFault)) → All P (xs ++ ys) → All P xs
all-front P xs ys all = λ k d lt. subst P (get_or_append_left xs ys d k lt) (all k d (let n = length-append xs ys in omega (arith, n, lt)))

all-back : (P : ℕ × LineFault → Type 0) (xs ys : List (ℕ × LineFault)) → All P (xs ++ ys) → All P ys
all-back P xs ys all = λ k d lt. subst P (get_or-append-add xs ys k d) (all (length xs + k) d (let n = length-append xs ys in omega (arith, n, lt)))

-- it holds of the lines of each run
pub all-run : (P : ℕ × LineFault → Type 0) (runs : List Run) (i : ℕ) (d : Run) → i < length runs → All P (lines_of_runs runs) → All P (lines_of_run (get_or runs i d))
all-run P [] i d lt all = absurd (omega (arith, lt))
all-run P (first ∷ runs) zero d lt all = all-front P (lines_of_run first) (lines_of_runs runs) all
all-run P (first ∷ runs) (suc i) d lt all = all-run P runs i d (omega (arith, lt)) (all-back P (lines_of_run first) (lines_of_runs runs) all)

-- a run that stands for one that is not there
abbrev pub no_run : Run
no_run = record { first = 0; more = 0; fault = TooLong }

-- the first number of a run is one of its numbers
pub first-within : (before most : ℕ) (run : Run) → All (λ line. before + line.0 < most) (lines_of_run run) → before + run.first < most
first-within before most run all = All-head (λ line. before + line.0 < most) (run.first, run.fault) (neighbours run.fault (run.first + 1) run.more) all

length-neighbours : (fault : LineFault) (first count : ℕ) → length (neighbours fault first count) ≡ count
length-neighbours fault first zero = refl
length-neighbours fault first (suc count) = let n = length-neighbours fault (first + 1) count in omega (arith, n)

get_or-neighbours : (fault : LineFault) (first count i : ℕ) (d : ℕ × LineFault) → i < count → get_or (neighbours fault first count) i d ≡ (first + i, fault)
get_or-neighbours fault first zero i d lt = absurd (omega (arith, lt))
get_or-neighbours fault first (suc count) zero d lt = ap (λ n. (n, fault)) (let e : first ≡ first + 0 = omega arith in e)
get_or-neighbours fault first (suc count) (suc i) d lt =
    get_or-neighbours fault (first + 1) count i d (omega (arith, lt)) ∙ ap (λ n. (n, fault)) (let e : first + 1 + i ≡ first + suc i = omega arith in e)

-- so are those of its neighbours
pub neighbour-within : (before most : ℕ) (run : Run) (place : ℕ) → place < run.more → All (λ line. before + line.0 < most) (lines_of_run run) → before + run.first + 1 + place < most
neighbour-within before most run place lt all =
    let d : ℕ × LineFault = (0, run.fault) in
    let at = get_or-neighbours run.fault run.first (suc run.more) (suc place) d (omega (arith, lt)) in
    let n = length-neighbours run.fault run.first (suc run.more) in
    let here : before + (run.first + suc place) < most =
    subst (λ (line : ℕ × LineFault). before + line.0 < most) at (all (suc place) d (omega (arith, n, lt))) in
    omega (arith, here)

-- the first line of a run, and some neighbours behind it
pub neighbours-listed : (before : ℕ) (front so_far new : List (ℕ × LineFault)) (run : Run) (place : ℕ) → so_far ≡ front ++ map (shift before) (neighbours run.fault run.first (suc place))
    → new ≡ so_far ++ (before + run.first + 1 + place, run.fault) ∷ [] → new ≡ front ++ map (shift before) (neighbours run.fault run.first (suc (place + 1)))
neighbours-listed before front so_far new run place held is =
    let some = neighbours run.fault run.first (suc place) in
    is
    ∙ ap (λ ls. ls ++ (before + run.first + 1 + place, run.fault) ∷ []) held
    ∙ append_assoc front (map (shift before) some) ((before + run.first + 1 + place, run.fault) ∷ [])
    ∙ ap (λ n. front ++ (map (shift before) some ++ (n, run.fault) ∷ [])) (let e : before + run.first + 1 + place ≡ before + (run.first + suc place) = omega arith in e)
    ∙ ap (λ ls. front ++ ls) (sym (map-append (shift before) some ((run.first + suc place, run.fault) ∷ [])))
    ∙ ap (λ ls. front ++ map (shift before) ls) (sym (neighbours-more run.fault run.first (suc place)))
    ∙ ap (λ n. front ++ map (shift before) (neighbours run.fault run.first (suc n))) (let e : suc place ≡ place + 1 = omega arith in e)
