-- The conditions of FILTERs.
use Rattle.std.proofs.Common.{◌≡◌, ◌∙◌, ◌<◌, ◌≤◌, ℕ, zero, suc, Bool, true, false, ◌&&◌, ◌+◌, List, [], ◌∷◌, ◌++◌, append_assoc, append-nil, drop, get_or, length, map, Some, refl, sym, ap, arith}
use Rattle.std.specs.Prelude.{slice_get}
use Rattle.std.specs.List.{list_all}
use Rattle.std.proofs.lemmas.List.{at_drop_all, drop_more}
use Rattle.semantics.specs.Values.{Datum}
use Rattle.semantics.specs.Columns.{Field}
use Rattle.semantics.specs.Syntax.{Predicate}
use Rattle.query_eval.specs.declared.condition.Condition.{Condition}
use Rattle.query_eval.specs.Meaning.{condition_truth, is_safe}
use Rattle.query_eval.specs.Binding.{AreConditionsOf, GivesPredicate, IsConditionOf, IsSafeWhereTyped}
use Rattle.query_eval.specs.Inside.Binding.{record_scope}
use Rattle.query_eval.proofs.Safety.{record-values}

first_holds : (a b : Bool) → (a && b) ≡ true → a ≡ true
first_holds true b h = refl
first_holds false b h = absurd cc

second_holds : (a b : Bool) → (a && b) ≡ true → b ≡ true
second_holds true b h = h
second_holds false b h = absurd cc

-- A condition that is worth what a predicate is, and can be evaluated where that is typed, is its
-- condition.
pub filter_condition : (fields : List Field) (p : Predicate) (c : Condition) → GivesPredicate (record_scope fields) p c → IsSafeWhereTyped (record_scope fields) p c → IsConditionOf fields (Some p) (Some c)
filter_condition fields p c gives safe = record { worth = λ values. gives values; safe = λ grouped typed values fits. safe grouped typed values (record-values fields values fits) }

-- One filter more, and its condition.
pub conditions_push : (fields : List Field) (ps : List Predicate) (cs : List Condition) (p : Predicate) (c : Condition) → AreConditionsOf fields ps cs → IsConditionOf fields (Some p) (Some c) → AreConditionsOf fields (ps ++ p ∷ []) (cs ++ c ∷ [])
conditions_push fields [] [] p c h k = (k, tt)
conditions_push fields [] (d ∷ cs) p c h k = absurd h
conditions_push fields (q ∷ ps) [] p c h k = absurd h
conditions_push fields (q ∷ ps) (d ∷ cs) p c h k = (h.0, conditions_push fields ps cs p c h.1 k)

-- Where all conditions can be evaluated, each can.
pub safe_at : (cs : List Condition) (i : ℕ) (c : Condition) (values : List Datum) → i < length cs → c ≡ get_or cs i c → list_all (λ safe. safe values) (map is_safe cs) ≡ true → is_safe c values ≡ true
safe_at [] i c values below e h = absurd (omega (arith, below))
safe_at (d ∷ cs) zero c values below e h = ap (λ (b : Condition). is_safe b values) e ∙ first_holds (is_safe d values) (list_all (λ safe. safe values) (map is_safe cs)) h
safe_at (d ∷ cs) (suc i) c values below e h = safe_at cs i c values (omega (arith, below)) e (second_holds (is_safe d values) (list_all (λ safe. safe values) (map is_safe cs)) h)

-- Where all conditions that are left can be evaluated, the next can, and all behind it.
pub next_safe : (cs : List Condition) (i : ℕ) (c : Condition) (values : List Datum) → i < length cs → c ≡ get_or cs i c → list_all (λ safe. safe values) (map is_safe (drop i cs)) ≡ true
    → (is_safe c values ≡ true) × (list_all (λ safe. safe values) (map is_safe (drop (i + 1) cs)) ≡ true)
next_safe cs i c values below e h =
    let all : List Condition → Bool = λ ds. list_all (λ safe. safe values) (map is_safe ds) in
    let k : (is_safe c values && all (drop (i + 1) cs)) ≡ true = sym (ap all (drop_more cs i c below ∙ ap (λ (d : Condition). d ∷ drop (i + 1) cs) (sym e))) ∙ h in
    (first_holds (is_safe c values) (all (drop (i + 1) cs)) k, second_holds (is_safe c values) (all (drop (i + 1) cs)) k)

-- One item more is told, and one fewer is left.
pub next_told : {A B : Type 0} (f : A → B) (told more : List B) (xs : List A) (i : ℕ) (x : A) (y : B) → i < length xs → x ≡ get_or xs i x → y ≡ f x → more ≡ told ++ y ∷ [] → more ++ map f (drop (i + 1) xs) ≡ told ++ map f (drop i xs)
next_told {A} {B} f told more xs i x y below e worth is =
    let rest = map f (drop (i + 1) xs) in
    ap (λ (ys : List B). ys ++ rest) is ∙ append_assoc told (y ∷ []) rest ∙ ap (λ (z : B). told ++ z ∷ rest) worth
    ∙ sym (ap (λ (ys : List A). told ++ map f ys) (drop_more xs i x below ∙ ap (λ (z : A). z ∷ drop (i + 1) xs) (sym e)))

-- At the end all is told.
pub all_told : {A B : Type 0} (f : A → B) (told : List B) (xs : List A) (i : ℕ) → length xs ≤ i → told ++ map f (drop i xs) ≡ map f xs → told ≡ map f xs
all_told {A} {B} f told xs i past h = sym (append-nil told) ∙ sym (at_drop_all (λ (ys : List A). told ++ map f ys) xs i past) ∙ h

-- What the condition at a place is worth.
pub worth_at : (cs : List Condition) (i : ℕ) (c : Condition) (values : List Datum) → i < length cs → c ≡ get_or cs i c → Some (condition_truth c values) ≡ slice_get (map (λ d. condition_truth d values) cs) i
worth_at [] i c values below e = absurd (omega (arith, below))
worth_at (d ∷ cs) zero c values below e = ap (λ (b : Condition). Some (condition_truth b values)) e
worth_at (d ∷ cs) (suc i) c values below e = worth_at cs i c values (omega (arith, below)) e
