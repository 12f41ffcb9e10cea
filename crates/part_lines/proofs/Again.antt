-- The lines of groups are read as these groups, if they are read at all.
use Rattle.std.proofs.Common.{◌≡◌, ◌+◌, ◌^◌, ℕ, ℤ, pos, Bool, true, false, cond, not, List, [], ◌∷◌, length, map, Option, Some, None, Ok, Err, refl, sym, ap, subst, ◌∙◌, arith}
use Rattle.std.proofs.lemmas.List.Concat.{flat_map-cons}
use Rattle.std.specs.List.{AllByRecursion, AllZip}
use Rattle.std.specs.Prelude.{IfOk, IfSome, flat_map, nat_le, nat_lt}
use Rattle.semantics.specs.Groups.{Key, key_order}
use Rattle.semantics.specs.Records.{max_line_len}
use Rattle.semantics.specs.Values.{Datum, whole, is_null, value_order}
use Rattle.semantics.specs.declared.kind.Kind.{Kind}
use Rattle.semantics.specs.GroupStates.{EntryForm, FunctionState, rows, counted, summed, extreme, collected}
use Rattle.part_lines.specs.LineValues.{line_value}
use Rattle.semantics.specs.Parts.{value_text, group_values, groups_values, state_values}
use Rattle.part_lines.specs.Inside.LineValues.{count_values}
use Rattle.values.specs.Results.{◌>>=◌}
use Rattle.part_lines.specs.Faults.{out_of_order, out_of_range, unexpected_value}
use Rattle.part_lines.specs.declared.shape.StateKind.{StateKind}
use Rattle.part_lines.specs.declared.shape.StateKind.TheVariants as kind
use Rattle.part_lines.specs.Groups.{HasKind, HasShape, HaveShape, ShapeForm}
use Rattle.part_lines.specs.Known.{AreReadAgain, AreReadAs}
use Rattle.part_lines.specs.Reading.{Before, Stream, after, ascending_at, can_have_members, collected_at, count_at, count_within, counted_at, different_at, each_at, extreme_at, fault_at, first_line, group_at, groups_at, held_at, is_above, is_held, is_sum_of, key_at, members_at, next_key_at, number_at, passed, reading_of, state_at, summed_at, value_at, value_or_fault}
use Rattle.part_lines.proofs.ReadAs.{IsRead, ReadsBack, and_more, and_no_more, each-again, in_turn-again, nothing-read, then_passed}

-- ---- values one by one

abbrev pub itself : Datum → List Datum
itself d = d ∷ []

pub itself-all : (ds : List Datum) → flat_map itself ds ≡ ds
itself-all [] = refl
itself-all (d ∷ ds) = flat_map-cons itself d ds ∙ ap (λ es. d ∷ es) (itself-all ds)

found-again : (o : Option Datum) (d : Datum) (s : Stream) → IfSome o (λ e. e ≡ d) → IfOk (value_or_fault o s >>= λ e. Ok (e, s)) (IsRead d s.left)
found-again None d s h = tt
found-again (Some e) d s h = (h, refl)

pub value-again : (d : Datum) → ReadsBack value_at (d ∷ []) d
unfolding value_at
value-again d s [] rest h stands = absurd h
value-again d s (l ∷ []) rest h stands =
    let next : Stream = record { left = rest; place = s.place + 1 } in
    subst (λ ls. IfOk (first_line ls s.place >>= λ line. value_or_fault (reading_of line.0) line.1 >>= λ e. Ok (e, line.1)) (IsRead d rest)) (sym stands) (found-again (reading_of l) d next h.0)
value-again d s (l ∷ m ∷ ls) rest h stands = absurd h.1

pub held-again : (k : Kind) (d : Datum) → ReadsBack (held_at k) (d ∷ []) d
unfolding held_at
held-again k d = and_no_more value_at (d ∷ []) d _ d (value-again d) (λ s rest stands. then_passed (is_held k d) unexpected_value s _ (IsRead d rest) (refl, stands))

pub number-again : (z : ℤ) → ReadsBack number_at (whole z ∷ []) z
unfolding number_at
number-again z = and_no_more value_at (whole z ∷ []) (whole z) _ z (value-again (whole z)) (λ s rest stands. (refl, stands))

count_in-again : (n : ℕ) (s : Stream) (rest : List (List ℕ)) (within : Bool) → s.left ≡ rest → IfOk (cond within (Ok n) (Err (fault_at unexpected_value s)) >>= λ m. Ok (m, s)) (IsRead n rest)
count_in-again n s rest true stands = (refl, stands)
count_in-again n s rest false stands = tt

pub count-again : (n : ℕ) → ReadsBack count_at (count_values n) n
unfolding count_at
count-again n = and_no_more number_at (count_values n) (pos n) _ n (number-again (pos n)) (λ s rest stands. count_in-again n s rest (nat_lt n (2 ^ 64)) stands)

pub within-again : (most n : ℕ) → ReadsBack (count_within most) (count_values n) n
unfolding count_within
within-again most n = and_no_more count_at (count_values n) n _ n (count-again n) (λ s rest stands. then_passed (nat_le n most) out_of_range s _ (IsRead n rest) (refl, stands))

-- ---- states

counted-again : (members n : ℕ) → ReadsBack (counted_at members) (count_values n) (counted n)
counted-again members n = and_no_more (count_within members) (count_values n) n _ (counted n) (within-again members n) (λ s rest stands. (refl, stands))

summed-again : (members : ℕ) (z : ℤ) (n : ℕ) → ReadsBack (summed_at members) (whole z ∷ count_values n) (summed z n)
unfolding summed_at
summed-again members z n =
    and_more number_at (whole z ∷ []) z _ (count_values n) (summed z n) (number-again z)
    (and_no_more (count_within members) (count_values n) n _ (summed z n) (within-again members n) (λ s rest stands. then_passed (is_sum_of n z) out_of_range s _ (IsRead (summed z n) rest) (refl, stands)))

extreme-again : (k : Kind) (d : Datum) → ReadsBack (extreme_at k) (d ∷ []) (extreme d)
extreme-again k d = and_no_more (held_at k) (d ∷ []) d _ (extreme d) (held-again k d) (λ s rest stands. (refl, stands))

different-again : (k : Kind) (last : Option Datum) (d : Datum) → ReadsBack (different_at k last) (d ∷ []) d
unfolding different_at
different-again k last d = and_no_more (held_at k) (d ∷ []) d _ d (held-again k d) (λ s rest stands.
    then_passed (not (is_null d)) unexpected_value s (λ _. passed (is_above value_order last d) out_of_order s >>= λ _. Ok (d, s)) (IsRead d rest)
    (then_passed (is_above value_order last d) out_of_order s (λ _. Ok (d, s)) (IsRead d rest) (refl, stands)))

all-different : (k : Kind) (ds : List Datum) → AllByRecursion (λ d. (last : Option Datum) → ReadsBack (different_at k last) (itself d) d) ds
all-different k [] = tt
all-different k (d ∷ ds) = (λ last. different-again k last d, all-different k ds)

ascending-again : (k : Kind) (last : Option Datum) (ds : List Datum) → ReadsBack (ascending_at k (length ds) last) ds ds
ascending-again k last ds = subst (λ es. ReadsBack (ascending_at k (length ds) last) es ds) (itself-all ds) (in_turn-again (different_at k) (λ _ d. Some d) itself ds last (all-different k ds))

collected-again : (k : Kind) (members : ℕ) (ds : List Datum) → ReadsBack (collected_at k members) (whole (pos (length ds)) ∷ ds) (collected ds)
unfolding collected_at
collected-again k members ds =
    and_more (count_within members) (count_values (length ds)) (length ds) _ ds (collected ds) (within-again members (length ds))
    (and_no_more (ascending_at k (length ds) None) ds ds _ (collected ds) (ascending-again k None ds) (λ s rest stands. (refl, stands)))

state-again : (members : ℕ) (k : StateKind) (x : FunctionState) → HasKind k x → ReadsBack (state_at members k) (state_values x) x
state-again members kind.Rows rows h = nothing-read rows
state-again members kind.Count (counted n) h = counted-again members n
state-again members kind.Sum (summed z n) h = summed-again members z n
state-again members (kind.Extreme k) (extreme d) h = extreme-again k d
state-again members (kind.Distinct k) (collected ds) h = collected-again k members ds
state-again members kind.Rows (counted n) h = absurd h
state-again members kind.Rows (summed z n) h = absurd h
state-again members kind.Rows (extreme d) h = absurd h
state-again members kind.Rows (collected ds) h = absurd h
state-again members kind.Count rows h = absurd h
state-again members kind.Count (summed z n) h = absurd h
state-again members kind.Count (extreme d) h = absurd h
state-again members kind.Count (collected ds) h = absurd h
state-again members kind.Sum rows h = absurd h
state-again members kind.Sum (counted n) h = absurd h
state-again members kind.Sum (extreme d) h = absurd h
state-again members kind.Sum (collected ds) h = absurd h
state-again members (kind.Extreme k) rows h = absurd h
state-again members (kind.Extreme k) (counted n) h = absurd h
state-again members (kind.Extreme k) (summed z n) h = absurd h
state-again members (kind.Extreme k) (collected ds) h = absurd h
state-again members (kind.Distinct k) rows h = absurd h
state-again members (kind.Distinct k) (counted n) h = absurd h
state-again members (kind.Distinct k) (summed z n) h = absurd h
state-again members (kind.Distinct k) (extreme d) h = absurd h

states-again : (members : ℕ) (ks : List StateKind) (xs : List FunctionState) → AllZip HasKind ks xs → AllZip (λ k x. ReadsBack (state_at members k) (state_values x) x) ks xs
states-again members [] [] h = tt
states-again members [] (x ∷ xs) h = absurd h
states-again members (k ∷ ks) [] h = absurd h
states-again members (k ∷ ks) (x ∷ xs) h = (state-again members k x h.0, states-again members ks xs h.1)

-- ---- groups

key_values-again : (columns : List Kind) (key : Key) → length key ≡ length columns → AllZip (λ k d. ReadsBack (held_at k) (itself d) d) columns key
key_values-again [] [] h = tt
key_values-again [] (d ∷ key) h = absurd (omega (arith, h))
key_values-again (k ∷ columns) [] h = absurd (omega (arith, h))
key_values-again (k ∷ columns) (d ∷ key) h = (held-again k d, key_values-again columns key (omega (arith, h)))

key-again : (columns : List Kind) (key : Key) → length key ≡ length columns → ReadsBack (key_at columns) key key
key-again columns key h = subst (λ ds. ReadsBack (key_at columns) ds key) (itself-all key) (each-again held_at itself columns key (key_values-again columns key h))

next_key-again : (columns : List Kind) (last : Option Key) (key : Key) → length key ≡ length columns → ReadsBack (next_key_at columns last) key key
unfolding next_key_at
next_key-again columns last key h = and_no_more (key_at columns) key key _ key (key-again columns key h) (λ s rest stands. then_passed (is_above key_order last key) out_of_order s _ (IsRead key rest) (refl, stands))

members-again : (columns : List Kind) (left n : ℕ) → ReadsBack (members_at columns left) (count_values n) n
unfolding members_at
members-again columns left n = and_no_more (count_within left) (count_values n) n _ n (within-again left n) (λ s rest stands. then_passed (can_have_members columns n) out_of_range s _ (IsRead n rest) (refl, stands))

pub group-again : (shape : ShapeForm) (last : Option Key) (left : ℕ) (g : EntryForm) → HasShape shape g → ReadsBack (group_at shape last left) (group_values g) g
unfolding group_at
group-again shape last left g h =
    let states : List Datum = flat_map state_values g.states in
    and_more (next_key_at shape.columns last) g.key g.key _ (whole (pos g.members) ∷ states) g (next_key-again shape.columns last g.key h.key)
    (and_more (members_at shape.columns left) (count_values g.members) g.members _ states g (members-again shape.columns left g.members)
    (and_no_more (each_at (state_at g.members) shape.states) states g.states _ g (each-again (state_at g.members) state_values shape.states g.states (states-again g.members shape.states g.states h.states)) (λ s rest stands. (refl, stands))))

all-groups : (shape : ShapeForm) (gs : List EntryForm) → HaveShape shape gs → AllByRecursion (λ g. (before : Before) → ReadsBack (group_at shape before.last before.left) (group_values g) g) gs
all-groups shape [] h = tt
all-groups shape (g ∷ gs) h = (λ before. group-again shape before.last before.left g h.0, all-groups shape gs h.1)

pub groups_at-again : (shape : ShapeForm) (gs : List EntryForm) (last : Option Key) (left : ℕ) → HaveShape shape gs → ReadsBack (groups_at shape (length gs) last left) (groups_values gs) gs
groups_at-again shape gs last left h =
    in_turn-again (λ before. group_at shape before.last before.left) after group_values gs (record { last = last; left = left }) (all-groups shape gs h)

pub groups-again : (shape : ShapeForm) (gs : List EntryForm) → HaveShape shape gs → AreReadAgain shape gs
groups-again shape gs h last left = groups_at-again shape gs last left h

-- ---- the texts of values

text-again : (d : Datum) (long : Bool) → IfSome (line_value (value_text d)) (λ e. e ≡ d) → IfSome (cond long None (line_value (value_text d))) (λ e. e ≡ d)
text-again d true h = tt
text-again d false h = h

pub texts-again : ((d : Datum) → IfSome (line_value (value_text d)) (λ e. e ≡ d)) → (ds : List Datum) → AreReadAs (map value_text ds) ds
texts-again same [] = tt
texts-again same (d ∷ ds) = (text-again d (nat_lt max_line_len (length (value_text d))) (same d), texts-again same ds)
