-- The grouping columns of a row and its key.
use Rattle.std.proofs.Common.{lt-ltb, le-ltb, ltb-true, ltb-false, one-add, ◌≡◌, ℕ, suc, ◌==◌, nat_lt, Bool, true, false, cond, not, List, [], ◌∷◌, length, map, refl, ap, ◌∙◌, arith, slice_index_or, Some, None}
use Rattle.std.specs.Prelude.{⊤, filter}
use Rattle.std.specs.Ordering.{ordering_then}
use Rattle.std.specs.Cmp.Lexicographic.{slice_cmp}
use Rattle.std.specs.List.{AllByRecursion, position_or_len}
use Rattle.std.specs.Option.{option_map_or}
use Rattle.std.proofs.lemmas.Bool.Decides.{nat_tests}
use Rattle.semantics.specs.Values.{Datum, null, value_order}
use Rattle.semantics.specs.Lists.{distinct}
use Rattle.semantics.specs.Groups.{Key}
use Rattle.semantics.specs.Rows.{value_in}

-- ---- lists of places without repeats

-- the place stands nowhere in the list
abbrev pub Misses : ℕ → List ℕ → Type 0
Misses g cs = AllByRecursion (λ c. (g == c) ≡ false) cs

abbrev pub AreDifferent : List ℕ → Type 0
AreDifferent [] = ⊤
AreDifferent (g ∷ gs) = Misses g gs × AreDifferent gs

misses-filter : (g : ℕ) (p : ℕ → Bool) (cs : List ℕ) → Misses g cs → Misses g (filter p cs)
misses-filter g p [] h = tt
misses-filter g p (c ∷ cs) h = elim (p c) as (λ (b : Bool). Misses g (cond b (c ∷ filter p cs) (filter p cs))) [ true ↦ (h.0, misses-filter g p cs h.1) | false ↦ misses-filter g p cs h.1 ]

different-filter : (p : ℕ → Bool) (cs : List ℕ) → AreDifferent cs → AreDifferent (filter p cs)
different-filter p [] h = tt
different-filter p (c ∷ cs) h = elim (p c) as (λ (b : Bool). AreDifferent (cond b (c ∷ filter p cs) (filter p cs))) [ true ↦ (misses-filter c p cs h.0, different-filter p cs h.1) | false ↦ different-filter p cs h.1 ]

misses-others : (g : ℕ) (cs : List ℕ) → Misses g (filter (λ c. not (g == c)) cs)
misses-others g [] = tt
misses-others g (c ∷ cs) = elim (g == c) as (λ (b : Bool). (g == c) ≡ b → Misses g (cond (not b) (c ∷ filter (λ c. not (g == c)) cs) (filter (λ c. not (g == c)) cs))) [ true ↦ λ _. misses-others g cs | false ↦ λ e. (e, misses-others g cs) ] refl

-- what is left without repeats has none
pub different-distinct : (cs : List ℕ) → AreDifferent (distinct (λ a b. a == b) cs)
different-distinct [] = tt
different-distinct (c ∷ cs) = (misses-others c (distinct (λ a b. a == b) cs), different-filter (λ d. not (c == d)) (distinct (λ a b. a == b) cs) (different-distinct cs))

-- ---- the values of a key

same_itself : (g : ℕ) → (g == g) ≡ true
same_itself g = grind (arith, nat_tests)

other_way : (g c : ℕ) → (g == c) ≡ false → (c == g) ≡ false
other_way g c h = grind (arith, nat_tests)

-- what a key has at the first place where a test holds, if that is one of so many
abbrev at_place : ℕ → ℕ → Key → Datum
at_place place count ks = option_map_or (λ at. slice_index_or ks at null) (cond (nat_lt place count) (Some place) None) null

above_none : (n : ℕ) → nat_lt 0 (suc n) ≡ true
above_none n = lt-ltb 0 (suc n) (omega arith)

not_below : (n : ℕ) → nat_lt n n ≡ false
not_below n = le-ltb n n (omega arith)

both_more : (m n : ℕ) → nat_lt (suc m) (suc n) ≡ nat_lt m n
both_more m n =
    elim (nat_lt m n) as (λ (b : Bool). nat_lt m n ≡ b → nat_lt (suc m) (suc n) ≡ b) [
      | true ↦ λ e. let below = ltb-true m n e in lt-ltb (suc m) (suc n) (omega (arith, below))
      | false ↦ λ e. let above = ltb-false m n e in le-ltb (suc m) (suc n) (omega (arith, above))
    ] refl

at_place-more : (place count : ℕ) (k : Datum) (ks : Key) → at_place (suc place) (suc count) (k ∷ ks) ≡ at_place place count ks
at_place-more place count k ks =
    ap (λ (b : Bool). option_map_or (λ at. slice_index_or (k ∷ ks) at null) (cond b (Some (suc place)) None) null) (both_more place count)
    ∙ (elim (nat_lt place count) as (λ (b : Bool). option_map_or (λ at. slice_index_or (k ∷ ks) at null) (cond b (Some (suc place)) None) null ≡ option_map_or (λ at. slice_index_or ks at null) (cond b (Some place) None) null) [ true ↦ refl | false ↦ refl ])

first-place : (g : ℕ) (set : List ℕ) → position_or_len (λ column. column == g) (g ∷ set) ≡ 0
first-place g set = rw (same_itself g) refl

later-place : (g c : ℕ) (set : List ℕ) → (g == c) ≡ false → position_or_len (λ column. column == c) (g ∷ set) ≡ suc (position_or_len (λ column. column == c) set)
later-place g c set h = rw h (one-add (position_or_len (λ column. column == c) set))

-- the first column of a set has the first value
pub value_in-first : (g : ℕ) (set : List ℕ) (k : Datum) (ks : Key) → value_in (g ∷ set) (k ∷ ks) g ≡ k
value_in-first g set k ks =
    ap (λ (n : ℕ). at_place n (suc (length set)) (k ∷ ks)) (first-place g set)
    ∙ ap (λ (b : Bool). option_map_or (λ at. slice_index_or (k ∷ ks) at null) (cond b (Some 0) None) null) (above_none (length set))

-- every other column has its value in the rest
pub value_in-other : (g c : ℕ) (set : List ℕ) (k : Datum) (ks : Key) → (g == c) ≡ false → value_in (g ∷ set) (k ∷ ks) c ≡ value_in set ks c
value_in-other g c set k ks h =
    ap (λ (n : ℕ). at_place n (suc (length set)) (k ∷ ks)) (later-place g c set h) ∙ at_place-more (position_or_len (λ column. column == c) set) (length set) k ks

past : (g : ℕ) (set : List ℕ) → Misses g set → position_or_len (λ column. column == g) set ≡ length set
past g [] h = refl
past g (c ∷ set) h = later-place c g set (other_way g c h.0) ∙ ap suc (past g set h.1)

-- a column that is not in the set has NULL
pub value_in-missing : (g : ℕ) (set : List ℕ) (ks : Key) → Misses g set → value_in set ks g ≡ null
value_in-missing g set ks h =
    ap (λ (n : ℕ). at_place n (length set) ks) (past g set h)
    ∙ ap (λ (b : Bool). option_map_or (λ at. slice_index_or ks at null) (cond b (Some (length set)) None) null) (not_below (length set))

values-rest : (g : ℕ) (set : List ℕ) (k : Datum) (ks : Key) (cs : List ℕ) → Misses g cs → map (value_in (g ∷ set) (k ∷ ks)) cs ≡ map (value_in set ks) cs
values-rest g set k ks [] h = refl
values-rest g set k ks (c ∷ cs) h = λ i. value_in-other g c set k ks h.0 i ∷ values-rest g set k ks cs h.1 i

-- ---- the order of two keys of one set

abbrev shown : List ℕ → List ℕ → Key → List Datum
shown columns set key = map (value_in set key) columns

-- what is to be shown of a list of columns
abbrev Agree : List ℕ → List ℕ → Type 0
Agree columns set = (k l : Key) → length k ≡ length set → length l ≡ length set → slice_cmp value_order (shown columns set k) (shown columns set l) ≡ slice_cmp value_order k l

in-set : (g : ℕ) (gs set : List ℕ) → Misses g gs → Agree gs set → Agree (g ∷ gs) (g ∷ set)
in-set g gs set d ih [] l e f = absurd (omega arith)
in-set g gs set d ih (x ∷ k) [] e f = absurd (omega arith)
in-set g gs set d ih (x ∷ k) (y ∷ l) e f =
    (λ i. ordering_then (value_order (value_in-first g set x k i) (value_in-first g set y l i)) (slice_cmp value_order (values-rest g set x k gs d i) (values-rest g set y l gs d i)))
    ∙ ap (ordering_then (value_order x y)) (ih k l (omega arith) (omega arith))

out-of-set : (g : ℕ) (gs set : List ℕ) → Misses g set → Agree gs set → Agree (g ∷ gs) set
out-of-set g gs set d ih k l e f =
    (λ i. ordering_then (value_order (value_in-missing g set k d i) (value_in-missing g set l d i)) (slice_cmp value_order (shown gs set k) (shown gs set l)))
    ∙ ih k l e f

agree-none : Agree [] []
agree-none [] [] e f = refl
agree-none (x ∷ k) l e f = absurd (omega arith)
agree-none [] (y ∷ l) e f = absurd (omega arith)

-- what two rows of one set show for the grouping columns stands as their keys do
order-shown : (columns : List ℕ) (p : ℕ → Bool) → AreDifferent columns → Agree columns (filter p columns)
order-shown [] p d = agree-none
order-shown (g ∷ gs) p d =
    elim (p g) as (λ (b : Bool). Agree (g ∷ gs) (cond b (g ∷ filter p gs) (filter p gs))) [
      | true ↦ in-set g gs (filter p gs) d.0 (order-shown gs p d.1)
      | false ↦ out-of-set g gs (filter p gs) (misses-filter g p gs d.0) (order-shown gs p d.1)
    ]

-- the same of two sets that are the same part of the columns
pub order-same_set : (columns set other : List ℕ) (p : ℕ → Bool) → AreDifferent columns → set ≡ filter p columns → other ≡ set → (k l : Key) → length k ≡ length set → length l ≡ length other
    → slice_cmp value_order (map (value_in set k) columns) (map (value_in other l) columns) ≡ slice_cmp value_order k l
order-same_set columns set other p d is same k l e f =
    (λ i. slice_cmp value_order (map (value_in (is i) k) columns) (map (value_in ((same ∙ is) i) l) columns))
    ∙ order-shown columns p d k l (e ∙ ap length is) (f ∙ ap length (same ∙ is))
