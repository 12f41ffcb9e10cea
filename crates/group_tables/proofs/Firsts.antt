-- The first of some values in an order in which NULL is the last.
use Rattle.std.proofs.Common.{◌≡◌, ◌≢◌, ℕ, Bool, true, false, cond, not, ◌||◌, ◌&&◌, List, [], ◌∷◌, ◌++◌, Some, unwrap_or, refl, sym, ap, subst, ◌∙◌}
use Rattle.std.specs.declared.cmp.Ordering.{Ordering}
use Rattle.std.specs.declared.cmp.Ordering.TheVariants.{Less, Equal, Greater}
use Rattle.std.specs.List.{AllByRecursion, find, list_all, list_any}
use Rattle.std.specs.Ordering.{eq_by_cmp, is_eq, is_lt, is_gt, nat_cmp, ordering_reverse, ordering_then}
use Rattle.std.specs.Cmp.{IsTotalOrder, Equal-is, tied_itself, upto, nat_cmp_total, on_total, then_total, back_total}
use Rattle.std.specs.FinMap.{IsAntisymmetric}
use Rattle.semantics.specs.Values.{Datum, boolean, whole, text, null, value_order}
use Rattle.values.specs.Datum.{datum_of}
use Rattle.values.specs.declared.value.Value.{Value}
use Rattle.values.specs.declared.value.Value.TheVariants as v
use Rattle.semantics.specs.Aggregates.{is_non_null, non_null, minimum, maximum}
use Rattle.group_tables.specs.Values.{falling_order, first_by}
use Rattle.group_tables.proofs.Order.{value_total, value_antisymmetric}

flipped : (r : Ordering) → is_lt (ordering_reverse r) ≡ is_gt r
flipped Less = refl
flipped Equal = refl
flipped Greater = refl

not_both : (r : Ordering) → is_lt r ≡ true → is_gt r ≡ false
not_both Less e = refl
not_both Equal e = refl
not_both Greater e = cc

neither : (r : Ordering) → is_lt r ≡ false → is_gt r ≡ false → r ≡ Equal
neither Less e f = cc
neither Equal e f = refl
neither Greater e f = cc

or-true : (b : Bool) → (b || true) ≡ true
or-true true = refl
or-true false = refl

not-false : (b : Bool) → not b ≡ true → b ≡ false
not-false true e = cc
not-false false e = refl

and-left : (a b : Bool) → (a && b) ≡ true → a ≡ true
and-left true b e = refl
and-left false b e = cc

and-right : (a b : Bool) → (a && b) ≡ true → b ≡ true
and-right true b e = e
and-right false b e = cc

module _ {o : Datum → Datum → Ordering} (t : IsTotalOrder o) (s : IsAntisymmetric o) (last : (d : Datum) → is_lt (o null d) ≡ false) where
  turned : (a b : Datum) → is_lt (o b a) ≡ is_gt (o a b)
  turned a b = ap is_lt (t.antisymm b a) ∙ flipped (o a b)

  itself : (a : Datum) → is_gt (o a a) ≡ false
  itself a = ap is_gt (tied_itself t a)

  -- two values of which none is behind the other
  one_value : (x y : Datum) → is_gt (o x y) ≡ false → is_gt (o y x) ≡ false → x ≡ y
  one_value x y e f = s x y (neither (o x y) (turned y x ∙ f) e)

  first-left : (a b : Datum) → is_gt (o (first_by o a b) a) ≡ false
  first-left a b = elim (is_lt (o b a)) as (λ c. is_lt (o b a) ≡ c → is_gt (o (cond c b a) a) ≡ false) [ true ↦ λ e. not_both (o b a) e | false ↦ λ e. itself a ] refl

  first-right : (a b : Datum) → is_gt (o (first_by o a b) b) ≡ false
  first-right a b = elim (is_lt (o b a)) as (λ c. is_lt (o b a) ≡ c → is_gt (o (cond c b a) b) ≡ false) [ true ↦ λ e. itself b | false ↦ λ e. sym (turned a b) ∙ e ] refl

  first-both : (z a b : Datum) → is_gt (o z a) ≡ false → is_gt (o z b) ≡ false → is_gt (o z (first_by o a b)) ≡ false
  first-both z a b e f = elim (is_lt (o b a)) as (λ c. is_gt (o z (cond c b a)) ≡ false) [ true ↦ f | false ↦ e ]

  pub first-flip : (a b : Datum) → first_by o a b ≡ first_by o b a
  first-flip a b = one_value (first_by o a b) (first_by o b a)
      (first-both (first_by o a b) b a (first-right a b) (first-left a b))
      (first-both (first_by o b a) a b (first-right b a) (first-left b a))

  first-three : (x y z : Datum) → first_by o x (first_by o y z) ≡ first_by o (first_by o x y) z
  first-three x y z =
      let yz = first_by o y z in
      let xy = first_by o x y in
      let l = first_by o x yz in
      let r = first_by o xy z in
      one_value l r
      (first-both l xy z
      (first-both l x y (first-left x yz) (upto t l yz y (first-right x yz) (first-left y z)))
      (upto t l yz z (first-right x yz) (first-right y z)))
      (first-both r x yz
      (upto t r xy x (first-left xy z) (first-left x y))
      (first-both r y z (upto t r xy y (first-left xy z) (first-right x y)) (first-right xy z)))

  to_null : (d : Datum) → is_gt (o d null) ≡ false
  to_null d = sym (turned d null) ∙ last d

  null-first : (d : Datum) → first_by o null d ≡ d
  null-first d = one_value (first_by o null d) d (first-right null d) (first-both d null d (to_null d) (itself d))

  pub first-null : (d : Datum) → first_by o d null ≡ d
  first-null d = one_value (first_by o d null) d (first-left d null) (first-both d d null (itself d) (to_null d))

  -- the first of all values of a list, and NULL of none
  abbrev folded : List Datum → Datum
  folded [] = null
  folded (x ∷ xs) = first_by o x (folded xs)

  folded-append : (xs ys : List Datum) → folded (xs ++ ys) ≡ first_by o (folded xs) (folded ys)
  folded-append [] ys = sym (null-first (folded ys))
  folded-append (x ∷ xs) ys = ap (first_by o x) (folded-append xs ys) ∙ first-three x (folded xs) (folded ys)

  -- none is before what is not behind the first
  folded-low : (xs : List Datum) (z : Datum) → is_gt (o z (folded xs)) ≡ false → list_all (λ y. not (is_lt (o y z))) xs ≡ true
  folded-low [] z h = refl
  folded-low (x ∷ xs) z h =
      ap (λ b. not b && list_all (λ y. not (is_lt (o y z))) xs) (turned z x ∙ upto t z (folded (x ∷ xs)) x h (first-left x (folded xs)))
      ∙ folded-low xs z (upto t z (folded (x ∷ xs)) (folded xs) h (first-right x (folded xs)))

  abbrev has : Datum → List Datum → Bool
  has z ys = list_any (eq_by_cmp o z) ys

  is_same : (z y : Datum) → eq_by_cmp o z y ≡ true → z ≡ y
  is_same z y e = s z y ((Equal-is (o z y)).0 e)

  here : (y : Datum) (ys : List Datum) → has y (y ∷ ys) ≡ true
  here y ys = ap (λ r. is_eq r || has y ys) (tied_itself t y)

  later : (z y : Datum) (ys : List Datum) → has z ys ≡ true → has z (y ∷ ys) ≡ true
  later z y ys h = ap (λ b. eq_by_cmp o z y || b) h ∙ or-true (eq_by_cmp o z y)

  folded-in : (x : Datum) (xs : List Datum) → has (folded (x ∷ xs)) (x ∷ xs) ≡ true
  folded-in x [] = ap (λ z. has z (x ∷ [])) (first-null x) ∙ here x []
  folded-in x (y ∷ ys) = elim (is_lt (o (folded (y ∷ ys)) x)) as (λ c. has (cond c (folded (y ∷ ys)) x) (x ∷ y ∷ ys) ≡ true) [
    | true ↦ later (folded (y ∷ ys)) x (y ∷ ys) (folded-in y ys)
    | false ↦ here x (y ∷ ys)
  ]

  -- the first is behind none
  folded-each : (xs : List Datum) (z : Datum) → has z xs ≡ true → is_gt (o (folded xs) z) ≡ false
  folded-each [] z h = cc
  folded-each (x ∷ xs) z h = elim (eq_by_cmp o z x) as (λ b. eq_by_cmp o z x ≡ b → (b || has z xs) ≡ true → is_gt (o (folded (x ∷ xs)) z) ≡ false) [
    | true ↦ λ e _. ap (λ y. is_gt (o (folded (x ∷ xs)) y)) (is_same z x e) ∙ first-left x (folded xs)
    | false ↦ λ _ i. upto t (folded (x ∷ xs)) (folded xs) z (first-right x (folded xs)) (folded-each xs z i)
  ] refl h

  all-at : (p : Datum → Bool) (z : Datum) (ys : List Datum) → list_all p ys ≡ true → has z ys ≡ true → p z ≡ true
  all-at p z [] a h = cc
  all-at p z (y ∷ ys) a h = elim (eq_by_cmp o z y) as (λ b. eq_by_cmp o z y ≡ b → (b || has z ys) ≡ true → p z ≡ true) [
    | true ↦ λ e _. ap p (is_same z y e) ∙ and-left (p y) (list_all p ys) a
    | false ↦ λ _ i. all-at p z ys (and-right (p y) (list_all p ys) a) i
  ] refl h

  elsewhere : (p : Datum → Bool) (z y : Datum) (ys : List Datum) → p z ≡ true → p y ≡ false → has z (y ∷ ys) ≡ true → has z ys ≡ true
  elsewhere p z y ys one none h = elim (eq_by_cmp o z y) as (λ b. eq_by_cmp o z y ≡ b → (b || has z ys) ≡ true → has z ys ≡ true) [
    | true ↦ λ e _. let w : true ≡ false = sym one ∙ ap p (is_same z y e) ∙ none in cc
    | false ↦ λ _ i. i
  ] refl h

  -- what is found where one value alone passes
  find-one : (p : Datum → Bool) (m : Datum) (ys : List Datum) → ((z : Datum) → has z ys ≡ true → p z ≡ true → z ≡ m) → p m ≡ true → has m ys ≡ true → find p ys ≡ Some m
  find-one p m [] only passes h = cc
  find-one p m (y ∷ ys) only passes h = elim (p y) as (λ b. p y ≡ b → cond b (Some y) (find p ys) ≡ Some m) [
    | true ↦ λ e. ap Some (only y (here y ys) e)
    | false ↦ λ e. find-one p m ys (λ z i. only z (later z y ys i)) passes (elsewhere p m y ys passes e h)
  ] refl

  abbrev picked : List Datum → Datum
  picked xs = unwrap_or (find (λ x. list_all (λ y. not (is_lt (o y x))) xs) xs) null

  picked-folded : (xs : List Datum) → picked xs ≡ folded xs
  picked-folded [] = refl
  picked-folded (x ∷ xs) =
      let all = x ∷ xs in
      let m = folded all in
      ap (λ r. unwrap_or r null) (find-one (λ z. list_all (λ y. not (is_lt (o y z))) all) m all
      (λ z i e. one_value z m (sym (turned z m) ∙ not-false (is_lt (o m z)) (all-at (λ y. not (is_lt (o y z))) m all e (folded-in x xs))) (folded-each all z i))
      (folded-low all m (itself m)) (folded-in x xs))

  picked-append : (xs ys : List Datum) → picked (xs ++ ys) ≡ first_by o (picked xs) (picked ys)
  picked-append xs ys = picked-folded (xs ++ ys) ∙ folded-append xs ys ∙ (λ i. first_by o (sym (picked-folded xs) i) (sym (picked-folded ys) i))

  picked-one : (d : Datum) → picked (d ∷ []) ≡ d
  picked-one d = picked-folded (d ∷ []) ∙ first-null d

-- ---- the least value

null_last : (d : Datum) → is_lt (value_order null d) ≡ false
null_last (boolean b) = refl
null_last (whole n) = refl
null_last (text s) = refl
null_last null = refl

pub least-append : (xs ys : List Datum) → minimum (xs ++ ys) ≡ first_by value_order (minimum xs) (minimum ys)
least-append xs ys = picked-append value_total value_antisymmetric null_last xs ys

pub least-one : (d : Datum) → minimum (non_null (d ∷ [])) ≡ d
least-one (boolean b) = picked-one value_total value_antisymmetric null_last (boolean b)
least-one (whole n) = picked-one value_total value_antisymmetric null_last (whole n)
least-one (text s) = picked-one value_total value_antisymmetric null_last (text s)
least-one null = refl

pub less-flip : (a b : Datum) → first_by value_order a b ≡ first_by value_order b a
less-flip a b = first-flip value_total value_antisymmetric null_last a b

pub less-null : (d : Datum) → first_by value_order d null ≡ d
less-null d = first-null value_total value_antisymmetric null_last d

-- ---- the greatest value

abbrev nullness : Datum → ℕ
nullness (boolean b) = 0
nullness (whole n) = 0
nullness (text s) = 0
nullness null = 1

abbrev falling_parts : Datum → Datum → Ordering
falling_parts a b = ordering_then (nat_cmp (nullness a) (nullness b)) (value_order b a)

falling_order-is : (a b : Datum) → falling_order a b ≡ falling_parts a b
falling_order-is (boolean a) (boolean b) = refl
falling_order-is (boolean a) (whole n) = refl
falling_order-is (boolean a) (text s) = refl
falling_order-is (boolean a) null = refl
falling_order-is (whole m) (boolean b) = refl
falling_order-is (whole m) (whole n) = refl
falling_order-is (whole m) (text s) = refl
falling_order-is (whole m) null = refl
falling_order-is (text s) (boolean b) = refl
falling_order-is (text s) (whole n) = refl
falling_order-is (text s) (text t) = refl
falling_order-is (text s) null = refl
falling_order-is null (boolean b) = refl
falling_order-is null (whole n) = refl
falling_order-is null (text s) = refl
falling_order-is null null = refl

falling_total : IsTotalOrder falling_order
falling_total = subst (λ (order : Datum → Datum → Ordering). IsTotalOrder order) (λ i a b. sym (falling_order-is a b) i) (then_total (on_total nullness nat_cmp_total) (back_total value_total))

falling_antisymmetric : IsAntisymmetric falling_order
falling_antisymmetric (boolean a) (boolean b) e = sym (value_antisymmetric (boolean b) (boolean a) e)
falling_antisymmetric (boolean a) (whole n) e = sym (value_antisymmetric (whole n) (boolean a) e)
falling_antisymmetric (boolean a) (text s) e = sym (value_antisymmetric (text s) (boolean a) e)
falling_antisymmetric (boolean a) null e = cc
falling_antisymmetric (whole m) (boolean b) e = sym (value_antisymmetric (boolean b) (whole m) e)
falling_antisymmetric (whole m) (whole n) e = sym (value_antisymmetric (whole n) (whole m) e)
falling_antisymmetric (whole m) (text s) e = sym (value_antisymmetric (text s) (whole m) e)
falling_antisymmetric (whole m) null e = cc
falling_antisymmetric (text s) (boolean b) e = sym (value_antisymmetric (boolean b) (text s) e)
falling_antisymmetric (text s) (whole n) e = sym (value_antisymmetric (whole n) (text s) e)
falling_antisymmetric (text s) (text t) e = sym (value_antisymmetric (text t) (text s) e)
falling_antisymmetric (text s) null e = cc
falling_antisymmetric null (boolean b) e = cc
falling_antisymmetric null (whole n) e = cc
falling_antisymmetric null (text s) e = cc
falling_antisymmetric null null e = refl

falling_last : (d : Datum) → is_lt (falling_order null d) ≡ false
falling_last (boolean b) = refl
falling_last (whole n) = refl
falling_last (text s) = refl
falling_last null = refl

abbrev pub ArePresent : List Datum → Type 0
ArePresent xs = AllByRecursion (λ d. is_non_null d ≡ true) xs

pub present-all : (xs : List Datum) → ArePresent (non_null xs)
present-all [] = tt
present-all (x ∷ xs) = elim (is_non_null x) as (λ b. is_non_null x ≡ b → ArePresent (cond b (x ∷ non_null xs) (non_null xs))) [ true ↦ λ e. (e, present-all xs) | false ↦ λ e. present-all xs ] refl

present-append : (xs ys : List Datum) → ArePresent xs → ArePresent ys → ArePresent (xs ++ ys)
present-append [] ys p q = q
present-append (x ∷ xs) ys p q = (p.0, present-append xs ys p.1 q)

falling_order-present : (x y : Datum) → is_non_null x ≡ true → is_non_null y ≡ true → falling_order x y ≡ value_order y x
falling_order-present (boolean a) (boolean b) p q = refl
falling_order-present (boolean a) (whole n) p q = refl
falling_order-present (boolean a) (text s) p q = refl
falling_order-present (whole m) (boolean b) p q = refl
falling_order-present (whole m) (whole n) p q = refl
falling_order-present (whole m) (text s) p q = refl
falling_order-present (text s) (boolean b) p q = refl
falling_order-present (text s) (whole n) p q = refl
falling_order-present (text s) (text t) p q = refl
falling_order-present null y p q = cc
falling_order-present x null p q = cc

above : (x y : Datum) → is_non_null x ≡ true → is_non_null y ≡ true → is_gt (value_order x y) ≡ is_lt (falling_order x y)
above x y p q = sym (turned value_total value_antisymmetric null_last x y) ∙ ap is_lt (sym (falling_order-present x y p q))

value-present : (x : Value) → x ≢ v.Null → is_non_null (datum_of x) ≡ true
value-present (v.Bool b) h = refl
value-present (v.Int n) h = refl
value-present (v.Text s) h = refl
value-present v.Null h = absurd (h refl)

-- two values of the code of which none is NULL
pub above-shown : (x y : Value) → x ≢ v.Null → y ≢ v.Null → is_gt (value_order (datum_of x) (datum_of y)) ≡ is_lt (falling_order (datum_of x) (datum_of y))
above-shown x y h k = above (datum_of x) (datum_of y) (value-present x h) (value-present y k)

all-above : (z : Datum) (xs : List Datum) → is_non_null z ≡ true → ArePresent xs → list_all (λ y. not (is_gt (value_order y z))) xs ≡ list_all (λ y. not (is_lt (falling_order y z))) xs
all-above z [] p q = refl
all-above z (x ∷ xs) p q = λ i. not (above x z q.0 p i) && all-above z xs p q.1 i

find-above : (ys xs : List Datum) → ArePresent ys → ArePresent xs → find (λ x. list_all (λ y. not (is_gt (value_order y x))) xs) ys ≡ find (λ x. list_all (λ y. not (is_lt (falling_order y x))) xs) ys
find-above [] xs p q = refl
find-above (y ∷ ys) xs p q = λ i. cond (all-above y xs p.0 q i) (Some y) (find-above ys xs p.1 q i)

greatest-picked : (xs : List Datum) → ArePresent xs → maximum xs ≡ picked falling_total falling_antisymmetric falling_last xs
greatest-picked xs p = ap (λ r. unwrap_or r null) (find-above xs xs p p)

pub greatest-append : (xs ys : List Datum) → ArePresent xs → ArePresent ys → maximum (xs ++ ys) ≡ first_by falling_order (maximum xs) (maximum ys)
greatest-append xs ys p q = greatest-picked (xs ++ ys) (present-append xs ys p q)
    ∙ picked-append falling_total falling_antisymmetric falling_last xs ys
    ∙ (λ i. first_by falling_order (sym (greatest-picked xs p) i) (sym (greatest-picked ys q) i))

pub greatest-one : (d : Datum) → maximum (non_null (d ∷ [])) ≡ d
greatest-one (boolean b) = greatest-picked (boolean b ∷ []) (refl, tt) ∙ picked-one falling_total falling_antisymmetric falling_last (boolean b)
greatest-one (whole n) = greatest-picked (whole n ∷ []) (refl, tt) ∙ picked-one falling_total falling_antisymmetric falling_last (whole n)
greatest-one (text s) = greatest-picked (text s ∷ []) (refl, tt) ∙ picked-one falling_total falling_antisymmetric falling_last (text s)
greatest-one null = refl

pub greater-flip : (a b : Datum) → first_by falling_order a b ≡ first_by falling_order b a
greater-flip a b = first-flip falling_total falling_antisymmetric falling_last a b

pub greater-null : (d : Datum) → first_by falling_order d null ≡ d
greater-null d = first-null falling_total falling_antisymmetric falling_last d
