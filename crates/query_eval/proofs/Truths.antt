-- Truth values of lists, and values that can be compared.
use Rattle.std.proofs.Common.{◌≡◌, ◌∙◌, ◌+◌, ◌<◌, ℕ, Bool, true, false, List, [], ◌∷◌, drop, fold, get_or, length, refl, sym, ap, if◌then◌else◌}
use Rattle.std.proofs.lemmas.List.{drop_more}
use Rattle.semantics.specs.declared.truth.Truth.{Truth}
use Rattle.semantics.specs.declared.truth.Truth.TheVariants.{True, Unknown, False}
use Rattle.semantics.specs.Values.{Datum, boolean, whole, text, null}
use Rattle.semantics.specs.Truth.{conjunction, disjunction}
use Rattle.values.specs.Comparison.{AreComparable}
use Rattle.semantics.specs.Conditions.{value_truth}
use Rattle.query_eval.specs.Meaning.{comparable}

-- True OR anything is True
pub or-true : (ts : List Truth) → fold disjunction True ts ≡ True
or-true [] = refl
or-true (True ∷ ts) = or-true ts
or-true (Unknown ∷ ts) = or-true ts
or-true (False ∷ ts) = or-true ts

-- False AND anything is False
pub and-false : (ts : List Truth) → fold conjunction False ts ≡ False
and-false [] = refl
and-false (True ∷ ts) = and-false ts
and-false (Unknown ∷ ts) = and-false ts
and-false (False ∷ ts) = and-false ts

-- a truth value is what it says
pub value_truth_is : (b : Bool) → value_truth (boolean b) ≡ (if b then True else False)
value_truth_is true = refl
value_truth_is false = refl

pub comparable-is : (a b : Datum) → comparable a b ≡ true → AreComparable a b
comparable-is null b e = tt
comparable-is (boolean a) null e = tt
comparable-is (whole a) null e = tt
comparable-is (text a) null e = tt
comparable-is (boolean a) (boolean b) e = tt
comparable-is (whole a) (whole b) e = tt
comparable-is (text a) (text b) e = tt
comparable-is (boolean a) (whole b) e = absurd cc
comparable-is (boolean a) (text b) e = absurd cc
comparable-is (whole a) (boolean b) e = absurd cc
comparable-is (whole a) (text b) e = absurd cc
comparable-is (text a) (boolean b) e = absurd cc
comparable-is (text a) (whole b) e = absurd cc

-- ---- an answer that is settled before the end of a list

module _ {A : Type 0} (worth : A → Truth) (all_worth : List A → List Truth) (step : (x : A) (xs : List A) → all_worth (x ∷ xs) ≡ worth x ∷ all_worth xs) where
  next : (xs : List A) (i : ℕ) (x : A) → i < length xs → x ≡ get_or xs i x → all_worth (drop i xs) ≡ worth x ∷ all_worth (drop (i + 1) xs)
  next xs i x lt is = ap all_worth (drop_more xs i x lt ∙ ap (λ y. y ∷ drop (i + 1) xs) (sym is)) ∙ step x (drop (i + 1) xs)

  pub settled-true : (found now all : Truth) (xs : List A) (i : ℕ) (x : A) → i < length xs → x ≡ get_or xs i x
      → now ≡ disjunction found (worth x) → now ≡ True → fold disjunction found (all_worth (drop i xs)) ≡ all → now ≡ all
  settled-true found now all xs i x lt is e settled told =
      let rest = all_worth (drop (i + 1) xs) in
      settled ∙ sym (or-true rest) ∙ ap (λ t. fold disjunction t rest) (sym settled ∙ e)
      ∙ ap (fold disjunction found) (sym (next xs i x lt is)) ∙ told

  pub settled-false : (found now all : Truth) (xs : List A) (i : ℕ) (x : A) → i < length xs → x ≡ get_or xs i x
      → now ≡ conjunction found (worth x) → now ≡ False → fold conjunction found (all_worth (drop i xs)) ≡ all → now ≡ all
  settled-false found now all xs i x lt is e settled told =
      let rest = all_worth (drop (i + 1) xs) in
      settled ∙ sym (and-false rest) ∙ ap (λ t. fold conjunction t rest) (sym settled ∙ e)
      ∙ ap (fold conjunction found) (sym (next xs i x lt is)) ∙ told
