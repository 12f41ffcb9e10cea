-- The first fault of a list, and of the clauses of a query.
use Rattle.std.proofs.Common.{◌≡◌, ◌∙◌, List, [], ◌∷◌, ◌++◌, length, map, Option, Some, None, Result, All, refl, sym, ap, subst}
use Rattle.std.specs.Prelude.{Decides}
use Rattle.std.specs.Option.{option_or}
use Rattle.std.proofs.lemmas.List.Elements.{All-nil, All-cons, All-head, All-tail}
use Rattle.semantics.specs.declared.kind.Kind.{Kind}
use Rattle.semantics.specs.Columns.{Field}
use Rattle.semantics.specs.Syntax.{SelectItem, SortKey, Query}
use Rattle.semantics.specs.Canonical.{header_text}
use Rattle.semantics.specs.declared.query_fault.QueryFault.{QueryFault}
use Rattle.semantics.specs.Sets.{expansion, grouping_names, grouping_places}
use Rattle.semantics.specs.SetFunctions.{functions_of}
use Rattle.query_typecheck.specs.declared.scope.Clause.TheVariants as clause
use Rattle.semantics.specs.Types.{key_expression}
use Rattle.query_typecheck.specs.FirstFaults.{Answers, IsFirst, clause_fault, column_fault, expression_fault, first_fault, headers_fault, limit_fault, query_fault, tests_of}
use Rattle.semantics.specs.Faults.{same_kind}
use Rattle.query_typecheck.specs.Inside.Clauses.{clauses_fault, records_fault, rows_fault, select_fault}
use Rattle.query_typecheck.proofs.TypedLemmas.{same_from_test, same_itself}
use Rattle.query_typecheck.proofs.StandingLemmas.{either}

-- ---- lists

-- The first fault of a list is that of one element, and none before it has any.
pub first_is : {A : Type 0} (test : A → Option QueryFault) (xs : List A) (f : QueryFault) → first_fault test xs ≡ Some f → IsFirst test xs f
first_is test [] f h = absurd cc
first_is test (x ∷ xs) f h =
    either (test x) (first_fault test xs) f (IsFirst test (x ∷ xs) f)
    (λ here. ([], x, xs, refl, here, All-nil (λ y. test y ≡ None)))
    (λ none later.
    let k = first_is test xs f later in
    (x ∷ k.0, k.1, k.2, ap (λ ys. x ∷ ys) k.3, k.4, All-cons (λ y. test y ≡ None) x k.0 none k.5))
    h

-- An element's fault is the first where none before it has any.
behind_none : {A : Type 0} (test : A → Option QueryFault) (front back : List A) (x : A) (f : QueryFault) → test x ≡ Some f → All (λ y. test y ≡ None) front → first_fault test (front ++ x ∷ back) ≡ Some f
behind_none test [] back x f at none = rw at refl
behind_none test (y ∷ front) back x f at none =
    rw (All-head (λ z. test z ≡ None) y front none) (behind_none test front back x f at (All-tail (λ z. test z ≡ None) y front none))

-- So it is the first fault of the list.
pub is_first : {A : Type 0} (test : A → Option QueryFault) (xs : List A) (f : QueryFault) → IsFirst test xs f → first_fault test xs ≡ Some f
is_first test xs f h = ap (first_fault test) h.3 ∙ behind_none test h.0 h.2 h.1 f h.4 h.5

-- ---- types

-- Types pass the test exactly where they are equal.
pub kinds_decided : (k l : Kind) → Decides (same_kind k l) (k ≡ l)
kinds_decided k l = (λ e. same_from_test k l e, λ e. ap (same_kind k) (sym e) ∙ same_itself k)

-- ---- clauses

-- Eight tests in a row have the same first fault, however they are taken together.
in_a_row : (a b c d e g h i : Option QueryFault)
    → option_or (option_or a (option_or b c)) (option_or (option_or (option_or d e) (option_or g h)) i)
    ≡ first_fault (λ fault. fault) (a ∷ b ∷ c ∷ d ∷ e ∷ g ∷ h ∷ i ∷ [])
in_a_row (Some f) b c d e g h i = refl
in_a_row None (Some f) c d e g h i = refl
in_a_row None None (Some f) d e g h i = refl
in_a_row None None None (Some f) e g h i = refl
in_a_row None None None None (Some f) g h i = refl
in_a_row None None None None None (Some f) h i = refl
in_a_row None None None None None None (Some f) i = refl
in_a_row None None None None None None None (Some f) = refl
in_a_row None None None None None None None None = refl

-- The first fault of the clauses, as they are tested, is that of the query.
clauses_in_order : (fields : List Field) (t : Query) → clauses_fault fields (grouping_places fields t) t ≡ query_fault fields t
unfolding clauses_fault records_fault select_fault rows_fault tests_of
clauses_in_order fields t =
    let grouped = grouping_places fields t in
    in_a_row (clause_fault fields grouped clause.Where t.where_condition)
    (first_fault (column_fault fields) (grouping_names t))
    (limit_fault 256 (length (expansion t.groups)))
    (first_fault (λ (i : SelectItem). expression_fault fields grouped clause.Select i.expression) t.items)
    (headers_fault (map header_text t.items))
    (clause_fault fields grouped clause.Having t.having_condition)
    (first_fault (λ (k : SortKey). expression_fault fields grouped clause.OrderBy (key_expression t.items k.expression)) t.keys)
    (limit_fault 64 (length (functions_of fields t)))

-- So an answer to the clauses is one to the query.
pub answers_query : {X : Type 0} (fields : List Field) (t : Query) (r : Result X QueryFault) → Answers r (clauses_fault fields (grouping_places fields t) t) → Answers r (query_fault fields t)
answers_query fields t r h = subst (Answers r) (clauses_in_order fields t) h
