-- A whole query is typed exactly where it has no fault.
use Rattle.std.proofs.Common.{◌≡◌, ◌≢◌, ◌∙◌, ℕ, suc, ◌+◌, ◌<◌, ◌≤◌, nat_lt, Bool, true, false, not, ◌||◌, List, [], ◌∷◌, ◌++◌, length, take, map, get_or, Option, None, Result, Ok, Err, OnOk, IfErr, AllPairs, refl, sym, ap, subst, append_assoc, length-append, arith}
use Rattle.std.specs.Prelude.{is_some}
use Rattle.std.specs.List.{enumerate_from, list_any}
use Rattle.std.specs.Str.{bytes_eq}
use Rattle.std.proofs.lemmas.Bool.Decides.{nat_tests}
use Rattle.std.proofs.lemmas.List.{append-nil, length_push}
use Rattle.std.proofs.lemmas.List.Folds.{list_any_at}
use Rattle.std.proofs.lemmas.List.Quantifiers.{all_pairs_push}
use Rattle.std.proofs.lemmas.Slice.Eq.{bytes_eq-Decides}
use Rattle.std.proofs.Math.ListN.{get_or-append}
use Rattle.std.proofs.Math.Seq.{get_or-append_seam, take-append_seam}
use Rattle.semantics.specs.Columns.{Field}
use Rattle.semantics.specs.Syntax.{SelectItem, SortKey, Query}
use Rattle.semantics.specs.Canonical.{header_text}
use Rattle.semantics.specs.declared.query_fault.QueryFault.{QueryFault}
use Rattle.semantics.specs.declared.query_fault.QueryFault.TheVariants.{OutOfMemory, OverLimit, RepeatedHeader}
use Rattle.query_typecheck.specs.declared.scope.Clause.TheVariants as clause
use Rattle.semantics.specs.Names.{place_of}
use Rattle.semantics.specs.Sets.{expansion, grouping_names, grouping_places}
use Rattle.semantics.specs.SetFunctions.{functions_of}
use Rattle.query_typecheck.specs.Typing.{IsColumn, IsTyped, IsTypedExpression}
use Rattle.semantics.specs.Types.{key_expression}
use Rattle.query_typecheck.specs.FirstFaults.{Answers, clause_fault, column_fault, expression_fault, first_fault, header_fault, limit_fault, headers_fault, query_fault, tests_of}
use Rattle.query_typecheck.proofs.TypedLemmas.{all_from_none, both_none, clause_from_none, expression_from_none, holds, none_from_all, none_from_clause, none_from_expression, none_of_both, passes}

-- ---- headers

-- Headers that all differ.
abbrev AreDifferent : List (List ℕ) → Type 0
AreDifferent hs = AllPairs (λ (h : List ℕ) (g : List ℕ). h ≢ g) hs

-- A header that the test does not find differs from each.
differs : (h : List ℕ) (earlier : List (List ℕ)) → list_any (bytes_eq h) earlier ≡ false → (k : ℕ) (d : List ℕ) → k < length earlier → get_or earlier k d ≢ h
differs h earlier none k d below same =
    let found = list_any_at (bytes_eq h) earlier k d below ((bytes_eq-Decides h (get_or earlier k d)).1 (sym same)) in
    let wrong : true ≡ false = sym found ∙ none in
    let clash : ⊥ = cc in clash

-- A header that differs from each is not found.
not_found : (h : List ℕ) (earlier : List (List ℕ)) → ((k : ℕ) (d : List ℕ) → k < length earlier → get_or earlier k d ≢ h) → list_any (bytes_eq h) earlier ≡ false
not_found h [] other = refl
not_found h (g ∷ gs) other =
    elim (bytes_eq h g) as (λ (t : Bool). bytes_eq h g ≡ t → (t || list_any (bytes_eq h) gs) ≡ false) [
      | true ↦ λ e. absurd (other 0 g (omega arith) (sym ((bytes_eq-Decides h g).0 e)))
      | false ↦ λ _. not_found h gs (λ k d below. other (suc k) d (omega arith))
    ] refl

-- What is not true is false.
pub not_true : (b : Bool) → not b ≡ true → b ≡ false
not_true true h = absurd cc
not_true false h = refl

-- The first fault of headers behind others.
abbrev fault_behind : List (List ℕ) → ℕ → List (List ℕ) → Option QueryFault
fault_behind all n rest = first_fault (λ p. header_fault (take p.0 all) p.1) (enumerate_from n rest)

-- Headers without a fault differ, behind others that differ.
different_from_none : (done rest : List (List ℕ)) → AreDifferent done → fault_behind (done ++ rest) (length done) rest ≡ None → AreDifferent (done ++ rest)
different_from_none done [] front h = subst AreDifferent (sym (append-nil done)) front
different_from_none done (g ∷ rest) front h =
    let all = done ++ g ∷ rest in
    let k = none_of_both (header_fault (take (length done) all) g) (fault_behind all (length done + 1) rest) h in
    let seam : take (length done) all ≡ done = take-append_seam done (g ∷ rest) in
    let new : list_any (bytes_eq g) done ≡ false = not_true (list_any (bytes_eq g) done) (holds (not (list_any (bytes_eq g) done)) (RepeatedHeader g) (rw seam at k.0)) in
    let more : AreDifferent (done ++ g ∷ []) = all_pairs_push (λ (x : List ℕ) (y : List ℕ). x ≢ y) done g front (λ k d below. differs g done new k d below) in
    let later : fault_behind ((done ++ g ∷ []) ++ rest) (length (done ++ g ∷ [])) rest ≡ None =
    ap (λ (n : ℕ). fault_behind ((done ++ g ∷ []) ++ rest) n rest) (length_push done g)
    ∙ ap (λ (xs : List (List ℕ)). fault_behind xs (length done + 1) rest) (append_assoc done (g ∷ []) rest)
    ∙ k.1 in
    subst AreDifferent (append_assoc done (g ∷ []) rest) (different_from_none (done ++ g ∷ []) rest more later)

-- Headers that differ have no fault, behind others.
none_from_different : (done rest : List (List ℕ)) → AreDifferent (done ++ rest) → fault_behind (done ++ rest) (length done) rest ≡ None
none_from_different done [] all_differ = refl
none_from_different done (g ∷ rest) all_differ =
    let all = done ++ g ∷ rest in
    let seam : take (length done) all ≡ done = take-append_seam done (g ∷ rest) in
    let n = length-append done (g ∷ rest) in
    let new : list_any (bytes_eq g) done ≡ false = not_found g done (λ k d below e.
    all_differ k (length done) d below (omega (arith, n)) (get_or-append done (g ∷ rest) d k below ∙ e ∙ sym (get_or-append_seam done g rest d))) in
    let here : header_fault (take (length done) all) g ≡ None = rw (seam, new) refl in
    let later : fault_behind all (length done + 1) rest ≡ None =
    ap (λ (xs : List (List ℕ)). fault_behind xs (length done + 1) rest) (sym (append_assoc done (g ∷ []) rest))
    ∙ ap (λ (n : ℕ). fault_behind ((done ++ g ∷ []) ++ rest) n rest) (sym (length_push done g))
    ∙ none_from_different (done ++ g ∷ []) rest (subst AreDifferent (sym (append_assoc done (g ∷ []) rest)) all_differ) in
    both_none (header_fault (take (length done) all) g) (fault_behind all (length done + 1) rest) here later

-- ---- limits

-- A number without a fault is within the limit.
within : (most n : ℕ) → limit_fault most n ≡ None → n ≤ most
within most n h = let t = not_true (nat_lt most n) (holds (not (nat_lt most n)) OverLimit h) in grind (arith, nat_tests)

-- A number within the limit has no fault.
none_within : (most n : ℕ) → n ≤ most → limit_fault most n ≡ None
none_within most n h = let t : nat_lt most n ≡ false = grind (arith, nat_tests) in rw t refl

-- ---- the query

-- A query without a fault is typed.
pub typed_from_none : (fields : List Field) (t : Query) → query_fault fields t ≡ None → IsTyped fields t
unfolding tests_of
typed_from_none fields t h =
    let grouped = grouping_places fields t in
    let a = none_of_both (clause_fault fields grouped clause.Where t.where_condition) _ h in
    let b = none_of_both (first_fault (column_fault fields) (grouping_names t)) _ a.1 in
    let c = none_of_both (limit_fault 256 (length (expansion t.groups))) _ b.1 in
    let d = none_of_both (first_fault (λ (i : SelectItem). expression_fault fields grouped clause.Select i.expression) t.items) _ c.1 in
    let e = none_of_both (headers_fault (map header_text t.items)) _ d.1 in
    let g = none_of_both (clause_fault fields grouped clause.Having t.having_condition) _ e.1 in
    let i = none_of_both (first_fault (λ (k : SortKey). expression_fault fields grouped clause.OrderBy (key_expression t.items k.expression)) t.keys) _ g.1 in
    let j = none_of_both (limit_fault 64 (length (functions_of fields t))) None i.1 in
    record {
      where_condition = clause_from_none fields grouped clause.Where t.where_condition a.0;
      groups = all_from_none (column_fault fields) (IsColumn fields) (λ n k. holds (is_some (place_of fields n)) _ k) (grouping_names t) b.0;
      few_sets = within 256 (length (expansion t.groups)) c.0;
      items = all_from_none (λ (i : SelectItem). expression_fault fields grouped clause.Select i.expression) (λ i. IsTypedExpression fields grouped clause.Select i.expression) (λ i k. expression_from_none fields grouped clause.Select i.expression k) t.items d.0;
      headers_differ = different_from_none [] (map header_text t.items) (λ i j d l m. absurd (omega (arith, m))) e.0;
      having_condition = clause_from_none fields grouped clause.Having t.having_condition g.0;
      keys = all_from_none (λ (k : SortKey). expression_fault fields grouped clause.OrderBy (key_expression t.items k.expression)) (λ k. IsTypedExpression fields grouped clause.OrderBy (key_expression t.items k.expression)) (λ k e. expression_from_none fields grouped clause.OrderBy (key_expression t.items k.expression) e) t.keys i.0;
      few_functions = within 64 (length (functions_of fields t)) j.0;
    }

-- A typed query has no fault.
pub none_from_typed : (fields : List Field) (t : Query) → IsTyped fields t → query_fault fields t ≡ None
unfolding tests_of
none_from_typed fields t h =
    let grouped = grouping_places fields t in
    both_none _ _ (none_from_clause fields grouped clause.Where t.where_condition h.where_condition)
    (both_none _ _ (none_from_all (column_fault fields) (IsColumn fields) (λ n k. passes (is_some (place_of fields n)) _ k) (grouping_names t) h.groups)
    (both_none _ _ (none_within 256 (length (expansion t.groups)) h.few_sets)
    (both_none _ _ (none_from_all (λ (i : SelectItem). expression_fault fields grouped clause.Select i.expression) (λ i. IsTypedExpression fields grouped clause.Select i.expression) (λ i k. none_from_expression fields grouped clause.Select i.expression k) t.items h.items)
    (both_none _ _ (none_from_different [] (map header_text t.items) h.headers_differ)
    (both_none _ _ (none_from_clause fields grouped clause.Having t.having_condition h.having_condition)
    (both_none _ _ (none_from_all (λ (k : SortKey). expression_fault fields grouped clause.OrderBy (key_expression t.items k.expression)) (λ k. IsTypedExpression fields grouped clause.OrderBy (key_expression t.items k.expression)) (λ k e. none_from_expression fields grouped clause.OrderBy (key_expression t.items k.expression) e) t.keys h.keys)
    (both_none _ _ (none_within 64 (length (functions_of fields t)) h.few_functions) refl)))))))

-- A query that is let through is typed.
pub typed_ok : {X : Type 0} (fields : List Field) (t : Query) (r : Result X QueryFault) → Answers r (query_fault fields t) → OnOk r (IsTyped fields t)
typed_ok fields t (Ok x) h = typed_from_none fields t h
typed_ok fields t (Err f) h = tt

-- A query that is refused, other than for want of memory, is not typed.
pub untyped_err : {X : Type 0} (fields : List Field) (t : Query) (r : Result X QueryFault) → Answers r (query_fault fields t) → IfErr r (λ f. f ≢ OutOfMemory → IsTyped fields t → ⊥)
untyped_err fields t (Ok x) h = tt
untyped_err fields t (Err f) h = λ other typed. let none = none_from_typed fields t typed in let some = h other in let clash : ⊥ = cc in clash
