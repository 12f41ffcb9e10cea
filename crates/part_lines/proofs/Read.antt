-- The lines of groups that fit are read, to the last one.
use Rattle.std.proofs.Common.{◌≡◌, ◌≢◌, ◌+◌, ◌-◌, ◌*◌, ◌^◌, ◌<◌, ◌≤◌, ℕ, suc, ℤ, pos, negsuc, Bool, true, cond, not, List, [], ◌∷◌, ◌++◌, length, map, take, drop, Option, Some, None, Result, Ok, Err, refl, sym, ap, subst, ◌∙◌, append_assoc, length-append, arith}
use Rattle.std.proofs.lemmas.Bool.{le-leb, le-ltb, lt-ltb}
use Rattle.std.proofs.lemmas.Int.{ints}
use Rattle.std.proofs.lemmas.List.Concat.{flat_map-cons}
use Rattle.std.specs.Int.{w64}
use Rattle.std.specs.List.{AllByRecursion, AllZip}
use Rattle.std.specs.Ordering.{is_lt}
use Rattle.std.specs.Prelude.{⊤, FitsSigned, IsTrue, flat_map, nat_le}
use Rattle.std.specs.declared.cmp.Ordering.{Ordering}
use Rattle.semantics.specs.Groups.{Key, key_order}
use Rattle.semantics.specs.Records.{Holds, is_int64, max_line_len}
use Rattle.semantics.specs.Values.{Datum, boolean, whole, text, null, is_null, value_order}
use Rattle.semantics.specs.declared.kind.Kind.{Kind}
use Rattle.semantics.specs.declared.kind.Kind.TheVariants as type
use Rattle.semantics.specs.GroupStates.{EntryForm, FunctionState, rows, counted, summed, extreme, collected}
use Rattle.part_lines.specs.LineValues.{line_value}
use Rattle.part_lines.specs.Texts.{is_storable}
use Rattle.semantics.specs.Parts.{value_text, group_values, state_values}
use Rattle.part_lines.specs.Inside.LineValues.{count_values}
use Rattle.values.specs.Results.{◌>>=◌}
use Rattle.part_lines.specs.Faults.{Fault, FaultKind, out_of_order, out_of_range, unexpected_value}
use Rattle.part_lines.specs.declared.shape.StateKind.{StateKind}
use Rattle.part_lines.specs.declared.shape.StateKind.TheVariants as kind
use Rattle.part_lines.specs.Groups.{ShapeForm}
use Rattle.part_lines.specs.Known.{AreDifferentOf, AreGroupsFor, AreRead, AreStatesFor, HaveValues, IsWritable, IsAbove, IsGroupFor, IsKeyFor, IsStateFor, IsSumOf}
use Rattle.part_lines.specs.Inside.Known.{IsDifferentOf}
use Rattle.part_lines.specs.Reading.{Before, Stream, after, ascending_at, behind, can_have_members, collected_at, count_at, count_within, counted_at, different_at, each_at, extreme_at, fault_at, first_line, group_at, held_at, in_turn, is_above, is_held, is_sum_of, key_at, members_at, next_key_at, number_at, passed, reading_of, state_at, summed_at, value_at, value_or_fault}
use Rattle.part_lines.proofs.Again.{itself, itself-all}
use Rattle.part_lines.proofs.Facts.{AscendFrom}
use Rattle.part_lines.proofs.ReadAs.{lines-first}

-- ---- streams behind one another

abbrev at : List (List ℕ) → ℕ → Stream
at left place = record { left = left; place = place }

behind-none : (s : Stream) (rest : List (List ℕ)) → s.left ≡ rest → s ≡ behind [] rest s
behind-none s rest stands = let e : s.place ≡ s.place + 0 = omega arith in λ i. at (stands i) (e i)

behind-behind : (ds es : List Datum) (next rest : List (List ℕ)) (s : Stream) → behind es rest (behind ds next s) ≡ behind (ds ++ es) rest s
behind-behind ds es next rest s = let e : s.place + length ds + length es ≡ s.place + length (ds ++ es) = omega (arith, length-append ds es) in ap (at rest) e

-- ---- what lines of values are read as

-- Where the next lines have these values, the reading gives this thing, and the lines behind them
-- are left.
abbrev pub Reads : {A : Type 0} → (Stream → Result (A × Stream) Fault) → List Datum → A → Type 0
Reads one ds a = (s : Stream) (ls rest : List (List ℕ)) → HaveValues ls ds → s.left ≡ ls ++ rest → one s ≡ Ok (a, behind ds rest s)

reads-nothing : {A : Type 0} (a : A) → Reads (λ s. Ok (a, s)) [] a
reads-nothing {A} a s [] rest h stands = let give : Stream → Result (A × Stream) Fault = λ t. Ok (a, t) in ap give (behind-none s rest stands)
reads-nothing a s (l ∷ ls) rest h stands = absurd h

-- what follows reads no more lines
and_done : {A B : Type 0} (one : Stream → Result (A × Stream) Fault) (ds : List Datum) (a : A) (f : A × Stream → Result (B × Stream) Fault) (b : B)
    → Reads one ds a → ((s : Stream) → f (a, s) ≡ Ok (b, s)) → Reads (λ s. one s >>= f) ds b
and_done one ds a f b h k s ls rest has stands = ap (λ r. r >>= f) (h s ls rest has stands) ∙ k (behind ds rest s)

-- what follows reads more
and_on : {A B : Type 0} (one : Stream → Result (A × Stream) Fault) (ds : List Datum) (a : A) (f : A × Stream → Result (B × Stream) Fault) (es : List Datum) (b : B)
    → Reads one ds a → Reads (λ s. f (a, s)) es b → Reads (λ s. one s >>= f) (ds ++ es) b
and_on {A} {B} one ds a f es b h k s ls rest has stands =
    let parts = lines-first (λ line d. reading_of line ≡ Some d) ds es ls has in
    let first : List (List ℕ) = take (length ds) ls in
    let others : List (List ℕ) = drop (length ds) ls in
    let here : s.left ≡ first ++ (others ++ rest) = stands ∙ ap (λ (m : List (List ℕ)). m ++ rest) parts.2 ∙ append_assoc first others rest in
    let give : Stream → Result (B × Stream) Fault = λ t. Ok (b, t) in
    ap (λ r. r >>= f) (h s first (others ++ rest) parts.0 here) ∙ k (behind ds (others ++ rest) s) others rest parts.1 refl ∙ ap give (behind-behind ds es (others ++ rest) rest s)

if_true : {B : Type 0} (test : Bool) (kind : FaultKind) (s : Stream) (f : Unit {0} → Result B Fault) → test ≡ true → passed test kind s >>= f ≡ f tt
if_true test kind s f holds = ap (λ b. (cond b (Ok tt) (Err (fault_at kind s))) >>= f) holds

-- ---- one behind the other

each-read : {A B : Type 0} (one : A → Stream → Result (B × Stream) Fault) (values : B → List Datum) (all : List A) (bs : List B)
    → AllZip (λ a b. Reads (one a) (values b) b) all bs → Reads (each_at one all) (flat_map values bs) bs
unfolding each_at
each-read one values [] [] h = reads-nothing []
each-read one values [] (b ∷ bs) h = absurd h
each-read one values (a ∷ all) [] h = absurd h
each-read one values (a ∷ all) (b ∷ bs) h =
    subst (λ ds. Reads (each_at one (a ∷ all)) ds (b ∷ bs)) (sym (flat_map-cons values b bs))
    (and_on (one a) (values b) b (λ x. each_at one all x.1 >>= λ xs. Ok (x.0 ∷ xs.0, xs.1)) (flat_map values bs) (b ∷ bs) h.0
    (and_done (each_at one all) (flat_map values bs) bs (λ xs. Ok (b ∷ xs.0, xs.1)) (b ∷ bs) (each-read one values all bs h.1) (λ s. refl)))

-- each of these things fits behind those before it
abbrev InTurn : {A C : Type 0} → (C → A → Type 0) → (C → A → C) → C → List A → Type 0
InTurn P next known [] = ⊤
InTurn P next known (a ∷ items) = P known a × InTurn P next (next known a) items

in_turn-read : {A C : Type 0} (one : C → Stream → Result (A × Stream) Fault) (next : C → A → C) (values : A → List Datum) (items : List A) (known : C)
    → InTurn (λ c a. Reads (one c) (values a) a) next known items → Reads (in_turn one next (length items) known) (flat_map values items) items
unfolding in_turn
in_turn-read one next values [] known h = reads-nothing []
in_turn-read one next values (a ∷ items) known h =
    subst (λ ds. Reads (in_turn one next (suc (length items)) known) ds (a ∷ items)) (sym (flat_map-cons values a items))
    (and_on (one known) (values a) a (λ x. in_turn one next (length items) (next known x.0) x.1 >>= λ xs. Ok (x.0 ∷ xs.0, xs.1)) (flat_map values items) (a ∷ items) h.0
    (and_done (in_turn one next (length items) (next known a)) (flat_map values items) items (λ xs. Ok (a ∷ xs.0, xs.1)) (a ∷ items) (in_turn-read one next values items (next known a) h.1) (λ s. refl)))

-- ---- tests that are passed

held-int64 : (n : ℤ) → FitsSigned w64 n → is_int64 n ≡ true
held-int64 (pos n) h = lt-ltb n (2 ^ 63) h.sfits
held-int64 (negsuc n) h = lt-ltb n (2 ^ 63) h.sfits

held : (k : Kind) (d : Datum) → Holds k d → is_held k d ≡ true
held type.Int null h = refl
held type.Text null h = refl
held type.Bool null h = refl
held type.Int (whole n) h = held-int64 n h
held type.Text (text s) h = refl
held type.Bool (boolean b) h = refl
held type.Int (text s) h = absurd h
held type.Int (boolean b) h = absurd h
held type.Text (whole n) h = absurd h
held type.Text (boolean b) h = absurd h
held type.Bool (whole n) h = absurd h
held type.Bool (text s) h = absurd h

above : {X : Type 0} (order : X → X → Ordering) (last : Option X) (x : X) → IsAbove order last x → is_above order last x ≡ true
above order None x h = refl
above order (Some l) x h = ap is_lt h

no_null : (d : Datum) → d ≢ null → not (is_null d) ≡ true
no_null (boolean b) h = refl
no_null (whole n) h = refl
no_null (text s) h = refl
no_null null h = absurd (h refl)

bounded : (n : ℕ) (z : ℤ) → IsSumOf n z → is_sum_of n z ≡ true
bounded n (pos s) h = le-leb s (n * (2 ^ 63 - 1)) (omega (arith, ints, h.1))
bounded n (negsuc s) h = lt-ltb s (n * 2 ^ 63) (omega (arith, ints, h.0))

-- ---- values one by one

pub value-read : (d : Datum) → Reads value_at (d ∷ []) d
unfolding value_at
value-read d s [] rest h stands = absurd h
value-read d s (l ∷ []) rest h stands =
    let next : Stream = record { left = rest; place = s.place + 1 } in
    ap (λ ls. first_line ls s.place >>= λ line. value_or_fault (reading_of line.0) line.1 >>= λ e. Ok (e, line.1)) stands
    ∙ ap (λ o. value_or_fault o next >>= λ e. Ok (e, next)) h.0
value-read d s (l ∷ m ∷ ls) rest h stands = absurd h.1

held-read : (k : Kind) (d : Datum) → Holds k d → Reads (held_at k) (d ∷ []) d
unfolding held_at
held-read k d h = and_done value_at (d ∷ []) d _ d (value-read d) (λ s. if_true (is_held k d) unexpected_value s _ (held k d h))

number-read : (z : ℤ) → Reads number_at (whole z ∷ []) z
unfolding number_at
number-read z = and_done value_at (whole z ∷ []) (whole z) _ z (value-read (whole z)) (λ s. refl)

pub count-read : (n : ℕ) → n < 2 ^ 64 → Reads count_at (count_values n) n
unfolding count_at
count-read n small = and_done number_at (count_values n) (pos n) _ n (number-read (pos n)) (λ s. ap (λ b. cond b (Ok n) (Err (fault_at unexpected_value s)) >>= λ m. Ok (m, s)) (lt-ltb n (2 ^ 64) small))

pub within-read : (most n : ℕ) → n < 2 ^ 64 → n ≤ most → Reads (count_within most) (count_values n) n
unfolding count_within
within-read most n small few = and_done count_at (count_values n) n _ n (count-read n small) (λ s. if_true (nat_le n most) out_of_range s _ (le-leb n most few))

-- ---- the texts of values

pub texts-have : ((d : Datum) → IsTrue (is_storable d) → line_value (value_text d) ≡ Some d) → (ds : List Datum) → AllByRecursion IsWritable ds → HaveValues (map value_text ds) ds
texts-have again [] h = tt
texts-have again (d ∷ ds) h = (
  ap (λ b. cond b None (line_value (value_text d))) (le-ltb max_line_len (length (value_text d)) h.0.1) ∙ again d h.0.0,
  texts-have again ds h.1,
)

-- ---- states, of so many members

counted-read : (members n : ℕ) → n < 2 ^ 64 → n ≤ members → Reads (counted_at members) (count_values n) (counted n)
counted-read members n small few = and_done (count_within members) (count_values n) n _ (counted n) (within-read members n small few) (λ s. refl)

summed-read : (members : ℕ) (z : ℤ) (n : ℕ) → n < 2 ^ 64 → n ≤ members → IsSumOf n z → Reads (summed_at members) (whole z ∷ count_values n) (summed z n)
unfolding summed_at
summed-read members z n small few sum =
    and_on number_at (whole z ∷ []) z _ (count_values n) (summed z n) (number-read z)
    (and_done (count_within members) (count_values n) n _ (summed z n) (within-read members n small few) (λ s. if_true (is_sum_of n z) out_of_range s _ (bounded n z sum)))

extreme-read : (k : Kind) (d : Datum) → Holds k d → Reads (extreme_at k) (d ∷ []) (extreme d)
extreme-read k d h = and_done (held_at k) (d ∷ []) d _ (extreme d) (held-read k d h) (λ s. refl)

different-read : (k : Kind) (last : Option Datum) (d : Datum) → IsDifferentOf k last d → Reads (different_at k last) (d ∷ []) d
unfolding different_at
different-read k last d h = and_done (held_at k) (d ∷ []) d _ d (held-read k d h.held) (λ s.
    if_true (not (is_null d)) unexpected_value s _ (no_null d h.known) ∙ if_true (is_above value_order last d) out_of_order s _ (above value_order last d h.above))

ascend-from : (k : Kind) (last : Option Datum) (d : Datum) (ds : List Datum) → AreDifferentOf k (d ∷ ds) → IsAbove value_order last d → AscendFrom k last (d ∷ ds)
ascend-from k last d [] h first = (record { held = h.held.0; known = h.known.0; above = first }, tt)
ascend-from k last d (e ∷ ds) h first =
    let more : AreDifferentOf k (e ∷ ds) = record { held = h.held.1; known = h.known.1; ascending = h.ascending.1 } in
    (record { held = h.held.0; known = h.known.0; above = first }, ascend-from k (Some d) e ds more h.ascending.0)

ascend : (k : Kind) (ds : List Datum) → AreDifferentOf k ds → AscendFrom k None ds
ascend k [] h = tt
ascend k (d ∷ ds) h = ascend-from k None d ds h tt

abbrev behind_it : Option Datum → Datum → Option Datum
behind_it last d = Some d

different-turns : (k : Kind) (last : Option Datum) (ds : List Datum) → AscendFrom k last ds → InTurn (λ c d. Reads (different_at k c) (itself d) d) behind_it last ds
different-turns k last [] h = tt
different-turns k last (d ∷ ds) h = (different-read k last d h.0, different-turns k (Some d) ds h.1)

ascending-read : (k : Kind) (ds : List Datum) → AreDifferentOf k ds → Reads (ascending_at k (length ds) None) ds ds
ascending-read k ds h = subst (λ es. Reads (ascending_at k (length ds) None) es ds) (itself-all ds) (in_turn-read (different_at k) behind_it itself ds None (different-turns k None ds (ascend k ds h)))

collected-read : (k : Kind) (members : ℕ) (ds : List Datum) → length ds < 2 ^ 64 → length ds ≤ members → AreDifferentOf k ds → Reads (collected_at k members) (whole (pos (length ds)) ∷ ds) (collected ds)
unfolding collected_at
collected-read k members ds small few h =
    and_on (count_within members) (count_values (length ds)) (length ds) _ ds (collected ds) (within-read members (length ds) small few)
    (and_done (ascending_at k (length ds) None) ds ds _ (collected ds) (ascending-read k ds h) (λ s. refl))

state-read : (members : ℕ) (k : StateKind) (x : FunctionState) → members < 2 ^ 64 → IsStateFor members k x → Reads (state_at members k) (state_values x) x
state-read members kind.Rows rows small h = reads-nothing rows
state-read members kind.Count (counted n) small h = counted-read members n (omega (arith, small, h)) h
state-read members kind.Sum (summed z n) small h = summed-read members z n (omega (arith, small, h.0)) h.0 h.1
state-read members (kind.Extreme k) (extreme d) small h = extreme-read k d h
state-read members (kind.Distinct k) (collected ds) small h = collected-read k members ds (omega (arith, small, h.0)) h.0 h.1
state-read members kind.Rows (counted n) small h = absurd h
state-read members kind.Rows (summed z n) small h = absurd h
state-read members kind.Rows (extreme d) small h = absurd h
state-read members kind.Rows (collected ds) small h = absurd h
state-read members kind.Count rows small h = absurd h
state-read members kind.Count (summed z n) small h = absurd h
state-read members kind.Count (extreme d) small h = absurd h
state-read members kind.Count (collected ds) small h = absurd h
state-read members kind.Sum rows small h = absurd h
state-read members kind.Sum (counted n) small h = absurd h
state-read members kind.Sum (extreme d) small h = absurd h
state-read members kind.Sum (collected ds) small h = absurd h
state-read members (kind.Extreme k) rows small h = absurd h
state-read members (kind.Extreme k) (counted n) small h = absurd h
state-read members (kind.Extreme k) (summed z n) small h = absurd h
state-read members (kind.Extreme k) (collected ds) small h = absurd h
state-read members (kind.Distinct k) rows small h = absurd h
state-read members (kind.Distinct k) (counted n) small h = absurd h
state-read members (kind.Distinct k) (summed z n) small h = absurd h
state-read members (kind.Distinct k) (extreme d) small h = absurd h

states-read : (members : ℕ) (ks : List StateKind) (xs : List FunctionState) → members < 2 ^ 64 → AreStatesFor members ks xs → AllZip (λ k x. Reads (state_at members k) (state_values x) x) ks xs
states-read members [] [] small h = tt
states-read members [] (x ∷ xs) small h = absurd h
states-read members (k ∷ ks) [] small h = absurd h
states-read members (k ∷ ks) (x ∷ xs) small h = (state-read members k x small h.0, states-read members ks xs small h.1)

-- ---- groups

key_values-read : (columns : List Kind) (key : Key) → IsKeyFor columns key → AllZip (λ k d. Reads (held_at k) (itself d) d) columns key
key_values-read [] [] h = tt
key_values-read [] (d ∷ key) h = absurd h
key_values-read (k ∷ columns) [] h = absurd h
key_values-read (k ∷ columns) (d ∷ key) h = (held-read k d h.0, key_values-read columns key h.1)

key-read : (columns : List Kind) (key : Key) → IsKeyFor columns key → Reads (key_at columns) key key
key-read columns key h = subst (λ ds. Reads (key_at columns) ds key) (itself-all key) (each-read held_at itself columns key (key_values-read columns key h))

next_key-read : (columns : List Kind) (last : Option Key) (key : Key) → IsKeyFor columns key → IsAbove key_order last key → Reads (next_key_at columns last) key key
unfolding next_key_at
next_key-read columns last key h first = and_done (key_at columns) key key _ key (key-read columns key h) (λ s. if_true (is_above key_order last key) out_of_order s _ (above key_order last key first))

members-read : (columns : List Kind) (left n : ℕ) → n < 2 ^ 64 → n ≤ left → IsTrue (can_have_members columns n) → Reads (members_at columns left) (count_values n) n
unfolding members_at
members-read columns left n small few possible = and_done (count_within left) (count_values n) n _ n (within-read left n small few) (λ s. if_true (can_have_members columns n) out_of_range s _ possible)

group-read : (shape : ShapeForm) (last : Option Key) (left : ℕ) (g : EntryForm) → left < 2 ^ 64 → IsGroupFor shape last left g → Reads (group_at shape last left) (group_values g) g
unfolding group_at
group-read shape last left g small h =
    let states : List Datum = flat_map state_values g.states in
    let members : g.members < 2 ^ 64 = omega (arith, small, h.members) in
    and_on (next_key_at shape.columns last) g.key g.key _ (whole (pos g.members) ∷ states) g (next_key-read shape.columns last g.key h.key h.above)
    (and_on (members_at shape.columns left) (count_values g.members) g.members _ states g (members-read shape.columns left g.members members h.members h.possible)
    (and_done (each_at (state_at g.members) shape.states) states g.states _ g (each-read (state_at g.members) state_values shape.states g.states (states-read g.members shape.states g.states members h.states)) (λ s. refl)))

group-turns : (shape : ShapeForm) (before : Before) (gs : List EntryForm) → before.left < 2 ^ 64 → AreGroupsFor shape before gs
    → InTurn (λ c g. Reads (group_at shape c.last c.left) (group_values g) g) after before gs
group-turns shape before [] small h = tt
group-turns shape before (g ∷ gs) small h = (group-read shape before.last before.left g small h.0, group-turns shape (after before g) gs (omega (arith, small)) h.1)

pub groups-read : (shape : ShapeForm) (before : Before) (gs : List EntryForm) → before.left < 2 ^ 64 → AreGroupsFor shape before gs → AreRead shape before gs
groups-read shape before gs small h = in_turn-read (λ c. group_at shape c.last c.left) after group_values gs before (group-turns shape before gs small h)
