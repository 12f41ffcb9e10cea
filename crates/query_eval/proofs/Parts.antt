-- The conditions of the parts of an OR or an AND, as far as they are made.
use Rattle.std.proofs.Common.{◌≡◌, ◌∙◌, ◌+◌, ◌<◌, ◌++◌, ◌∷◌, [], ◌&&◌, ℕ, Bool, true, false, List, drop, get_or, map, length, refl, sym, ap, subst}
use Rattle.std.proofs.lemmas.List.{append_assoc, drop_more, map-append}
use Rattle.std.proofs.lemmas.List.Folds.{list_all-append}
use Rattle.std.specs.List.{list_all}
use Rattle.semantics.specs.declared.truth.Truth.{Truth}
use Rattle.semantics.specs.Values.{Datum}
use Rattle.query_ast.specs.declared.expression.Predicate.{Predicate}
use Rattle.query_ast.specs.Syntax.{predicate_form}
use Rattle.semantics.specs.Syntax.{predicate_forms}
use Rattle.query_typecheck.specs.Typing.{AreTypedParts}
use Rattle.query_eval.specs.declared.condition.Condition.{Condition}
use Rattle.semantics.specs.Conditions.{truths}
use Rattle.query_eval.specs.Meaning.{condition_truth, is_safe}
use Rattle.query_eval.specs.Binding.{AreValuesOf, GivesPredicate, IsSafeWhereTyped, ScopeForm}

-- some conditions are made, and with those of the parts that are left they are those of all parts
pub record AreBound (scope : ScopeForm) (made : List Condition) (left all : List Predicate) : Type 0 where
  pub worth : (values : List Datum)
      → map (λ truth. truth values) (map condition_truth made) ++ truths (scope.value values) (predicate_forms (map predicate_form left))
      ≡ truths (scope.value values) (predicate_forms (map predicate_form all))
  pub safe : (grouped : List ℕ) → AreTypedParts scope.fields grouped scope.clause (predicate_forms (map predicate_form all))
      → AreTypedParts scope.fields grouped scope.clause (predicate_forms (map predicate_form left))
      × ((values : List Datum) → AreValuesOf scope values → list_all (λ safe. safe values) (map is_safe made) ≡ true)

both-true : (a b : Bool) → a ≡ true → b ≡ true → (a && (b && true)) ≡ true
both-true true true e f = refl
both-true true false e f = absurd cc
both-true false b e f = absurd cc

more : (scope : ScopeForm) (made : List Condition) (c : Condition) (p : Predicate) (rest all : List Predicate)
    → GivesPredicate scope (predicate_form p) c → IsSafeWhereTyped scope (predicate_form p) c → AreBound scope made (p ∷ rest) all → AreBound scope (made ++ c ∷ []) rest all
more scope made c p rest all gives safe b = record {
  worth = λ values.
      let at = λ (truth : List Datum → Truth). truth values in
      let left = truths (scope.value values) (predicate_forms (map predicate_form rest)) in
      ap (λ ts. map at ts ++ left) (map-append condition_truth made (c ∷ []))
      ∙ ap (λ ts. ts ++ left) (map-append at (map condition_truth made) (condition_truth c ∷ []))
      ∙ append_assoc (map at (map condition_truth made)) (condition_truth c values ∷ []) left
      ∙ ap (λ t. map at (map condition_truth made) ++ t ∷ left) (gives values)
      ∙ b.worth values;
  safe = λ grouped typed.
      let before = b.safe grouped typed in (
        before.0.1,
        λ values are.
            let at = λ (safe : List Datum → Bool). safe values in
            ap (list_all at) (map-append is_safe made (c ∷ []))
            ∙ list_all-append at (map is_safe made) (is_safe c ∷ [])
            ∙ both-true _ _ (before.1 values are) (safe grouped before.0.0 values are),
      );
}

-- one more condition
pub bound-more : (scope : ScopeForm) (made : List Condition) (c : Condition) (p : Predicate) (all : List Predicate) (i : ℕ) → i < length all → p ≡ get_or all i p
    → GivesPredicate scope (predicate_form p) c → IsSafeWhereTyped scope (predicate_form p) c
    → AreBound scope made (drop i all) all → AreBound scope (made ++ c ∷ []) (drop (i + 1) all) all
bound-more scope made c p all i lt is gives safe b =
    more scope made c p (drop (i + 1) all) all gives safe
    (subst (λ (left : List Predicate). AreBound scope made left all) (drop_more all i p lt ∙ ap (λ (q : Predicate). q ∷ drop (i + 1) all) (sym is)) b)
