-- Cross products of sets, in the order of some columns.
use Rattle.std.proofs.Common.{◌≡◌, ◌∙◌, ℕ, ◌==◌, Bool, true, false, cond, ◌||◌, ◌&&◌, List, [], ◌∷◌, ◌++◌, map, refl, sym, ap, arith, append_assoc}
use Rattle.std.specs.Prelude.{filter}
use Rattle.std.specs.List.{list_any}
use Rattle.std.proofs.lemmas.Bool.Decides.{nat_tests}
use Rattle.std.proofs.lemmas.Grind.{flat_map-append}
use Rattle.std.proofs.lemmas.List.{append-nil, map-append}
use Rattle.std.proofs.lemmas.List.Folds.{list_any-append}
use Rattle.std.proofs.lemmas.Map.Views.{any-filter_same}
use Rattle.semantics.specs.Sets.{cross_product, cube_sets, ordered_set, rollup_sets}
use Rattle.query_resolve.proofs.Rows.{or_true}

-- ---- one set

-- Whether a place is in a set.
abbrev pub has : ℕ → List ℕ → Bool
has c set = list_any (λ p. p == c) set

-- A place is in the list that begins with it.
pub has_first : (x : ℕ) (xs : List ℕ) → has x (x ∷ xs) ≡ true
has_first x xs = let e : (x == x) ≡ true = grind (arith, nat_tests) in rw e refl

-- Of two tests either may be taken first.
or_swap : (a b : Bool) → (a || b) ≡ (b || a)
or_swap true b = sym (or_true b)
or_swap false true = refl
or_swap false false = refl

-- What is not filtered out.
and_true : (a b : Bool) → b ≡ true → (a && b) ≡ a
and_true true b e = e
and_true false b e = refl

-- Tests that agree on all that a list has keep the same of it.
pub same_filter : (k l : ℕ → Bool) (xs : List ℕ) → ((x : ℕ) → has x xs ≡ true → k x ≡ l x) → filter k xs ≡ filter l xs
same_filter k l [] agree = refl
same_filter k l (x ∷ xs) agree =
    ap (λ (b : Bool). cond b (x ∷ filter k xs) (filter k xs)) (agree x (has_first x xs))
    ∙ ap (λ (ys : List ℕ). cond (l x) (x ∷ ys) ys) (same_filter k l xs (λ y there. agree y (ap (λ (b : Bool). (x == y) || b) there ∙ or_true (x == y))))

-- Equal places are in the same sets.
same_there : (set : List ℕ) (c d : ℕ) → (d == c) ≡ true → has d set ≡ has c set
same_there set c d e = let same : d ≡ c = grind (arith, nat_tests) in ap (λ (x : ℕ). has x set) same

-- Ordered, a set has the same of the grouping columns.
pub has_ordered : (grouping set : List ℕ) (c : ℕ) → has c grouping ≡ true → has c (ordered_set grouping set) ≡ has c set
has_ordered grouping set c there =
    any-filter_same (λ p. p == c) (λ d. has d set) (has c set) (same_there set c) grouping
    ∙ and_true (has c set) (has c grouping) there

-- It is the same whether the first of two sets is ordered before they are joined.
ordered_left : (grouping a b : List ℕ) → ordered_set grouping (ordered_set grouping a ++ b) ≡ ordered_set grouping (a ++ b)
ordered_left grouping a b = same_filter _ _ grouping (λ c there.
    list_any-append (λ p. p == c) (ordered_set grouping a) b
    ∙ ap (λ (t : Bool). t || has c b) (has_ordered grouping a c there)
    ∙ sym (list_any-append (λ p. p == c) a b))

-- So it is of the second.
ordered_right : (grouping a b : List ℕ) → ordered_set grouping (a ++ ordered_set grouping b) ≡ ordered_set grouping (a ++ b)
ordered_right grouping a b = same_filter _ _ grouping (λ c there.
    list_any-append (λ p. p == c) a (ordered_set grouping b)
    ∙ ap (λ (t : Bool). has c a || t) (has_ordered grouping b c there)
    ∙ sym (list_any-append (λ p. p == c) a b))

-- It is the same which of two sets comes first.
ordered_swap : (grouping a b : List ℕ) → ordered_set grouping (a ++ b) ≡ ordered_set grouping (b ++ a)
ordered_swap grouping a b = same_filter _ _ grouping (λ c there.
    list_any-append (λ p. p == c) a b
    ∙ or_swap (has c a) (has c b)
    ∙ sym (list_any-append (λ p. p == c) b a))

-- ---- lists of sets

-- A set in front of each, ordered.
row_left : (grouping a : List ℕ) (bs : List (List ℕ)) → map (ordered_set grouping) (map (λ b. ordered_set grouping a ++ b) bs) ≡ map (ordered_set grouping) (map (λ b. a ++ b) bs)
row_left grouping a [] = refl
row_left grouping a (b ∷ bs) =
    ap (λ (s : List ℕ). s ∷ map (ordered_set grouping) (map (λ b. ordered_set grouping a ++ b) bs)) (ordered_left grouping a b)
    ∙ ap (λ (ss : List (List ℕ)). ordered_set grouping (a ++ b) ∷ ss) (row_left grouping a bs)

row_right : (grouping a : List ℕ) (bs : List (List ℕ)) → map (ordered_set grouping) (map (λ b. a ++ b) (map (ordered_set grouping) bs)) ≡ map (ordered_set grouping) (map (λ b. a ++ b) bs)
row_right grouping a [] = refl
row_right grouping a (b ∷ bs) =
    ap (λ (s : List ℕ). s ∷ map (ordered_set grouping) (map (λ b. a ++ b) (map (ordered_set grouping) bs))) (ordered_right grouping a b)
    ∙ ap (λ (ss : List (List ℕ)). ordered_set grouping (a ++ b) ∷ ss) (row_right grouping a bs)

-- It is the same whether the first of two lists is ordered before they are crossed.
crossed_left : (grouping : List ℕ) (xs bs : List (List ℕ)) → map (ordered_set grouping) (cross_product (map (ordered_set grouping) xs) bs) ≡ map (ordered_set grouping) (cross_product xs bs)
crossed_left grouping [] bs = refl
crossed_left grouping (a ∷ xs) bs =
    map-append (ordered_set grouping) (map (λ b. ordered_set grouping a ++ b) bs) (cross_product (map (ordered_set grouping) xs) bs)
    ∙ ap (λ (ss : List (List ℕ)). ss ++ map (ordered_set grouping) (cross_product (map (ordered_set grouping) xs) bs)) (row_left grouping a bs)
    ∙ ap (λ (ss : List (List ℕ)). map (ordered_set grouping) (map (λ b. a ++ b) bs) ++ ss) (crossed_left grouping xs bs)
    ∙ sym (map-append (ordered_set grouping) (map (λ b. a ++ b) bs) (cross_product xs bs))

-- So it is of the second.
pub crossed_right : (grouping : List ℕ) (xs bs : List (List ℕ)) → map (ordered_set grouping) (cross_product xs (map (ordered_set grouping) bs)) ≡ map (ordered_set grouping) (cross_product xs bs)
crossed_right grouping [] bs = refl
crossed_right grouping (a ∷ xs) bs =
    map-append (ordered_set grouping) (map (λ b. a ++ b) (map (ordered_set grouping) bs)) (cross_product xs (map (ordered_set grouping) bs))
    ∙ ap (λ (ss : List (List ℕ)). ss ++ map (ordered_set grouping) (cross_product xs (map (ordered_set grouping) bs))) (row_right grouping a bs)
    ∙ ap (λ (ss : List (List ℕ)). map (ordered_set grouping) (map (λ b. a ++ b) bs) ++ ss) (crossed_right grouping xs bs)
    ∙ sym (map-append (ordered_set grouping) (map (λ b. a ++ b) bs) (cross_product xs bs))

-- An ordered set in front of sets that are the same once they are ordered.
front_ordered : (grouping a : List ℕ) (bs cs : List (List ℕ)) → map (ordered_set grouping) bs ≡ map (ordered_set grouping) cs → map (ordered_set grouping) (map (λ b. ordered_set grouping a ++ b) bs) ≡ map (ordered_set grouping) (map (λ c. a ++ c) cs)
front_ordered grouping a bs cs same =
    row_left grouping a bs
    ∙ sym (row_right grouping a bs)
    ∙ ap (λ (ss : List (List ℕ)). map (ordered_set grouping) (map (λ s. a ++ s) ss)) same
    ∙ row_right grouping a cs

-- It is the same whether the units of a ROLLUP are ordered before.
pub rollup_ordered : (grouping : List ℕ) (units : List (List ℕ)) → map (ordered_set grouping) (rollup_sets (map (ordered_set grouping) units)) ≡ map (ordered_set grouping) (rollup_sets units)
rollup_ordered grouping [] = refl
rollup_ordered grouping (unit ∷ units) =
    let before = rollup_sets (map (ordered_set grouping) units) in
    map-append (ordered_set grouping) (map (λ s. ordered_set grouping unit ++ s) before) ([] ∷ [])
    ∙ ap (λ (ss : List (List ℕ)). ss ++ map (ordered_set grouping) ([] ∷ [])) (front_ordered grouping unit before (rollup_sets units) (rollup_ordered grouping units))
    ∙ sym (map-append (ordered_set grouping) (map (λ s. unit ++ s) (rollup_sets units)) ([] ∷ []))

-- So it is of a CUBE.
pub cube_ordered : (grouping : List ℕ) (units : List (List ℕ)) → map (ordered_set grouping) (cube_sets (map (ordered_set grouping) units)) ≡ map (ordered_set grouping) (cube_sets units)
cube_ordered grouping [] = refl
cube_ordered grouping (unit ∷ units) =
    let before = cube_sets (map (ordered_set grouping) units) in
    map-append (ordered_set grouping) (map (λ s. ordered_set grouping unit ++ s) before) before
    ∙ ap (λ (ss : List (List ℕ)). ss ++ map (ordered_set grouping) before) (front_ordered grouping unit before (cube_sets units) (cube_ordered grouping units))
    ∙ ap (λ (ss : List (List ℕ)). map (ordered_set grouping) (map (λ s. unit ++ s) (cube_sets units)) ++ ss) (cube_ordered grouping units)
    ∙ sym (map-append (ordered_set grouping) (map (λ s. unit ++ s) (cube_sets units)) (cube_sets units))

-- Two sets in front of each.
twice_prefixed : (a b : List ℕ) (cs : List (List ℕ)) → map (λ s. a ++ s) (map (λ c. b ++ c) cs) ≡ map (λ c. (a ++ b) ++ c) cs
twice_prefixed a b [] = refl
twice_prefixed a b (c ∷ cs) =
    ap (λ (s : List ℕ). s ∷ map (λ s. a ++ s) (map (λ c. b ++ c) cs)) (sym (append_assoc a b c))
    ∙ ap (λ (ss : List (List ℕ)). ((a ++ b) ++ c) ∷ ss) (twice_prefixed a b cs)

-- A set in front of a product is in front of each set of its first list.
prefixed_crossed : (a : List ℕ) (bs cs : List (List ℕ)) → map (λ s. a ++ s) (cross_product bs cs) ≡ cross_product (map (λ b. a ++ b) bs) cs
prefixed_crossed a [] cs = refl
prefixed_crossed a (b ∷ bs) cs =
    map-append (λ (s : List ℕ). a ++ s) (map (λ c. b ++ c) cs) (cross_product bs cs)
    ∙ ap (λ (ss : List (List ℕ)). ss ++ map (λ s. a ++ s) (cross_product bs cs)) (twice_prefixed a b cs)
    ∙ ap (λ (ss : List (List ℕ)). map (λ c. (a ++ b) ++ c) cs ++ ss) (prefixed_crossed a bs cs)

-- Of three lists it is the same which two are crossed first.
crossed_in_a_row : (xs bs cs : List (List ℕ)) → cross_product xs (cross_product bs cs) ≡ cross_product (cross_product xs bs) cs
crossed_in_a_row [] bs cs = refl
crossed_in_a_row (a ∷ xs) bs cs =
    ap (λ (ss : List (List ℕ)). ss ++ cross_product xs (cross_product bs cs)) (prefixed_crossed a bs cs)
    ∙ ap (λ (ss : List (List ℕ)). cross_product (map (λ b. a ++ b) bs) cs ++ ss) (crossed_in_a_row xs bs cs)
    ∙ sym (flat_map-append (λ (first : List ℕ). map (λ second. first ++ second) cs) (map (λ b. a ++ b) bs) (cross_product xs bs))

-- Crossed with one set, it is the same on which side that is.
one_swap : (grouping : List ℕ) (xs : List (List ℕ)) (b : List ℕ) → map (ordered_set grouping) (cross_product xs (b ∷ [])) ≡ map (ordered_set grouping) (cross_product (b ∷ []) xs)
one_swap grouping [] b = refl
one_swap grouping (a ∷ xs) b =
    ap (λ (s : List ℕ). s ∷ map (ordered_set grouping) (cross_product xs (b ∷ []))) (ordered_swap grouping a b)
    ∙ ap (λ (ss : List (List ℕ)). ordered_set grouping (b ++ a) ∷ ss) (one_swap grouping xs b)

-- ---- a product that is being made

-- A product of nothing before a list.
pub crossed_start : (xs : List (List ℕ)) → cross_product ([] ∷ []) xs ≡ xs
crossed_start [] = refl
crossed_start (a ∷ xs) = ap (λ (ss : List (List ℕ)). a ∷ ss) (crossed_start xs)

-- A product with nothing left.
pub crossed_end : (xs : List (List ℕ)) → cross_product xs ([] ∷ []) ≡ xs
crossed_end [] = refl
crossed_end (a ∷ xs) =
    ap (λ (s : List ℕ). s ∷ cross_product xs ([] ∷ [])) (append-nil a)
    ∙ ap (λ (ss : List (List ℕ)). a ∷ ss) (crossed_end xs)

-- One set more for all sets: it joins what they have in common.
pub common_more : (sets : List (List ℕ)) (common set : List ℕ) → cross_product sets ((common ++ set) ∷ []) ≡ cross_product (cross_product sets (common ∷ [])) (set ∷ [])
common_more sets common set = crossed_in_a_row sets (common ∷ []) (set ∷ [])

-- A list more: it may be crossed before what the sets have in common is added.
pub sets_more : (grouping : List ℕ) (sets more : List (List ℕ)) (common : List ℕ) → map (ordered_set grouping) (cross_product (cross_product sets more) (common ∷ [])) ≡ map (ordered_set grouping) (cross_product (cross_product sets (common ∷ [])) more)
sets_more grouping sets more common =
    ap (map (ordered_set grouping)) (sym (crossed_in_a_row sets more (common ∷ [])))
    ∙ sym (crossed_right grouping sets (cross_product more (common ∷ [])))
    ∙ ap (λ (ss : List (List ℕ)). map (ordered_set grouping) (cross_product sets ss)) (one_swap grouping more common)
    ∙ crossed_right grouping sets (cross_product (common ∷ []) more)
    ∙ ap (map (ordered_set grouping)) (crossed_in_a_row sets (common ∷ []) more)

-- A turn of the loop: an element is crossed in front of those that are left.
pub crossed_turn : (grouping : List ℕ) (old new found all left : List (List ℕ)) → map (ordered_set grouping) new ≡ map (ordered_set grouping) (cross_product old found) → found ≡ map (ordered_set grouping) all → map (ordered_set grouping) (cross_product new left) ≡ map (ordered_set grouping) (cross_product old (cross_product all left))
crossed_turn grouping old new found all left told ordered =
    sym (crossed_left grouping new left)
    ∙ ap (λ (ss : List (List ℕ)). map (ordered_set grouping) (cross_product ss left)) told
    ∙ crossed_left grouping (cross_product old found) left
    ∙ ap (map (ordered_set grouping)) (sym (crossed_in_a_row old found left))
    ∙ sym (crossed_right grouping old (cross_product found left))
    ∙ ap (λ (ss : List (List ℕ)). map (ordered_set grouping) (cross_product old (map (ordered_set grouping) (cross_product ss left)))) ordered
    ∙ ap (λ (ss : List (List ℕ)). map (ordered_set grouping) (cross_product old ss)) (crossed_left grouping all left)
    ∙ crossed_right grouping old (cross_product all left)
