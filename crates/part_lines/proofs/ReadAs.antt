-- What lines that are read as values are read as, where more is read than values.
use Rattle.std.proofs.Common.{◌≡◌, ℕ, suc, Bool, true, false, List, [], ◌∷◌, ◌++◌, length, take, drop, Result, Ok, Err, refl, sym, ap, subst, ◌∙◌, append_assoc}
use Rattle.std.proofs.lemmas.List.Concat.{flat_map-cons}
use Rattle.std.specs.List.{AllByRecursion, AllZip}
use Rattle.std.specs.Prelude.{IfOk, IfSome, flat_map}
use Rattle.semantics.specs.Values.{Datum}
use Rattle.values.specs.Results.{◌>>=◌}
use Rattle.part_lines.specs.Faults.{Fault, FaultKind}
use Rattle.part_lines.specs.Known.{AreReadAs}
use Rattle.part_lines.specs.Reading.{Stream, each_at, in_turn, passed, reading_of}

-- ---- one reading and then another one

pub then_known : {A B : Type 0} (read : Result A Fault) (f : A → Result B Fault) (P : A → Type 0) (Q : B → Type 0) → IfOk read P → ((a : A) → P a → IfOk (f a) Q) → IfOk (read >>= f) Q
then_known (Ok a) f P Q h k = k a h
then_known (Err e) f P Q h k = tt

-- a test changes nothing
pub then_passed : {B : Type 0} (test : Bool) (kind : FaultKind) (s : Stream) (f : Unit {0} → Result B Fault) (Q : B → Type 0) → IfOk (f tt) Q → IfOk (passed test kind s >>= f) Q
then_passed true kind s f Q h = h
then_passed false kind s f Q h = tt

-- ---- what is read

-- It is this thing, and these lines are left.
abbrev pub IsRead : {A : Type 0} → A → List (List ℕ) → A × Stream → Type 0
IsRead a rest read = (read.0 ≡ a) × (read.1.left ≡ rest)

-- Where the next lines are read as these values, the reading gives this thing, if it gives
-- anything, and the lines behind them are left.
abbrev pub ReadsBack : {A : Type 0} → (Stream → Result (A × Stream) Fault) → List Datum → A → Type 0
ReadsBack one ds a = (s : Stream) (ls rest : List (List ℕ)) → AreReadAs ls ds → s.left ≡ ls ++ rest → IfOk (one s) (IsRead a rest)

pub nothing-read : {A : Type 0} (a : A) → ReadsBack (λ s. Ok (a, s)) [] a
nothing-read a s [] rest h stands = (refl, stands)
nothing-read a s (l ∷ ls) rest h stands = absurd h

-- what follows reads no more lines
pub and_no_more : {A B : Type 0} (one : Stream → Result (A × Stream) Fault) (ds : List Datum) (a : A) (f : A × Stream → Result (B × Stream) Fault) (b : B)
    → ReadsBack one ds a → ((s : Stream) (rest : List (List ℕ)) → s.left ≡ rest → IfOk (f (a, s)) (IsRead b rest)) → ReadsBack (λ s. one s >>= f) ds b
and_no_more one ds a f b h k s ls rest reads stands =
    then_known (one s) f (IsRead a rest) (IsRead b rest) (h s ls rest reads stands)
    (λ x is. subst (λ y. IfOk (f (y, x.1)) (IsRead b rest)) (sym is.0) (k x.1 rest is.1))

-- lines of some values and more values are lines of the first and lines of the others
pub lines-first : (R : List ℕ → Datum → Type 0) (ds es : List Datum) (ls : List (List ℕ)) → AllZip R ls (ds ++ es)
    → AllZip R (take (length ds) ls) ds × AllZip R (drop (length ds) ls) es × (ls ≡ take (length ds) ls ++ drop (length ds) ls)
lines-first R [] es ls h = (tt, h, refl)
lines-first R (d ∷ ds) es [] h = absurd h
lines-first R (d ∷ ds) es (l ∷ ls) h = let more = lines-first R ds es ls h.1 in ((h.0, more.0), more.1, ap (λ (m : List (List ℕ)). l ∷ m) more.2)

-- what follows reads more
pub and_more : {A B : Type 0} (one : Stream → Result (A × Stream) Fault) (ds : List Datum) (a : A) (f : A × Stream → Result (B × Stream) Fault) (es : List Datum) (b : B)
    → ReadsBack one ds a → ReadsBack (λ s. f (a, s)) es b → ReadsBack (λ s. one s >>= f) (ds ++ es) b
and_more one ds a f es b h k s ls rest reads stands =
    let parts = lines-first (λ line d. IfSome (reading_of line) (λ e. e ≡ d)) ds es ls reads in
    let first : List (List ℕ) = take (length ds) ls in
    let others : List (List ℕ) = drop (length ds) ls in
    let here : s.left ≡ first ++ (others ++ rest) = stands ∙ ap (λ (m : List (List ℕ)). m ++ rest) parts.2 ∙ append_assoc first others rest in
    then_known (one s) f (IsRead a (others ++ rest)) (IsRead b rest) (h s first (others ++ rest) parts.0 here)
    (λ x is. subst (λ y. IfOk (f (y, x.1)) (IsRead b rest)) (sym is.0) (k x.1 others rest parts.1 is.1))

-- ---- one behind the other

pub each-again : {A B : Type 0} (one : A → Stream → Result (B × Stream) Fault) (values : B → List Datum) (all : List A) (bs : List B)
    → AllZip (λ a b. ReadsBack (one a) (values b) b) all bs → ReadsBack (each_at one all) (flat_map values bs) bs
unfolding each_at
each-again one values [] [] h = nothing-read []
each-again one values [] (b ∷ bs) h = absurd h
each-again one values (a ∷ all) [] h = absurd h
each-again one values (a ∷ all) (b ∷ bs) h =
    subst (λ ds. ReadsBack (each_at one (a ∷ all)) ds (b ∷ bs)) (sym (flat_map-cons values b bs))
    (and_more (one a) (values b) b (λ x. each_at one all x.1 >>= λ xs. Ok (x.0 ∷ xs.0, xs.1)) (flat_map values bs) (b ∷ bs) h.0
    (and_no_more (each_at one all) (flat_map values bs) bs (λ xs. Ok (b ∷ xs.0, xs.1)) (b ∷ bs) (each-again one values all bs h.1) (λ s rest stands. (refl, stands))))

pub in_turn-again : {A C : Type 0} (one : C → Stream → Result (A × Stream) Fault) (next : C → A → C) (values : A → List Datum) (items : List A) (known : C)
    → AllByRecursion (λ a. (c : C) → ReadsBack (one c) (values a) a) items → ReadsBack (in_turn one next (length items) known) (flat_map values items) items
unfolding in_turn
in_turn-again one next values [] known h = nothing-read []
in_turn-again one next values (a ∷ items) known h =
    subst (λ ds. ReadsBack (in_turn one next (suc (length items)) known) ds (a ∷ items)) (sym (flat_map-cons values a items))
    (and_more (one known) (values a) a (λ x. in_turn one next (length items) (next known x.0) x.1 >>= λ xs. Ok (x.0 ∷ xs.0, xs.1)) (flat_map values items) (a ∷ items) (h.0 known)
    (and_no_more (in_turn one next (length items) (next known a)) (flat_map values items) items (λ xs. Ok (a ∷ xs.0, xs.1)) (a ∷ items) (in_turn-again one next values items (next known a) h.1) (λ s rest stands. (refl, stands))))
