-- The first fault of a query stands in it: predicates, clauses and the whole query.
use Rattle.std.proofs.Common.{◌≡◌, ◌≢◌, ◌∙◌, ℕ, ◌+◌, ◌<◌, nat_lt, Bool, true, false, not, ◌||◌, List, [], ◌∷◌, ◌++◌, length, map, take, Option, Some, None, Result, Ok, Err, IfErr, Contains, refl, sym, ap, subst, inl, inr, append_assoc, arith}
use Rattle.std.specs.Prelude.{IsSome, IsSomeAnd}
use Rattle.std.specs.List.{enumerate_from, list_any}
use Rattle.std.specs.Option.{option_or, option_map_or}
use Rattle.std.specs.Str.{bytes_eq}
use Rattle.std.proofs.lemmas.Bool.Decides.{nat_tests}
use Rattle.std.proofs.lemmas.List.{length_push}
use Rattle.std.proofs.lemmas.List.Elements.{All-head, Contains-append_left, Contains-append_right}
use Rattle.std.proofs.lemmas.Slice.Eq.{bytes_eq-Decides}
use Rattle.std.proofs.Math.Seq.{take-append_seam}
use Rattle.semantics.specs.declared.kind.Kind.{Kind}
use Rattle.semantics.specs.declared.kind.Kind.TheVariants as kind
use Rattle.semantics.specs.Columns.{Field}
use Rattle.semantics.specs.declared.aggregate.Aggregate.{Aggregate}
use Rattle.semantics.specs.declared.aggregate.Aggregate.TheVariants as aggregate
use Rattle.semantics.specs.declared.literal.Literal.{Literal}
use Rattle.semantics.specs.Syntax.{Expression, Operand, Predicate, Predicates, SelectItem, SortKey, Query, name, grouping, function, over_all, over_filtered, expression, literal, or_of, and_of, not_of, truth_test, compare, between, member, null_test, column, no_parts, part}
use Rattle.semantics.specs.Canonical.{header_text}
use Rattle.semantics.specs.declared.query_fault.QueryFault.{QueryFault}
use Rattle.semantics.specs.declared.query_fault.QueryFault.TheVariants.{TypesDisagree, OverLimit, RepeatedHeader, OutOfMemory}
use Rattle.query_typecheck.specs.declared.scope.Clause.{Clause}
use Rattle.query_typecheck.specs.declared.scope.Clause.TheVariants as clause
use Rattle.semantics.specs.Names.{column_kind, place_of}
use Rattle.semantics.specs.Sets.{expansion, grouping_names, grouping_places}
use Rattle.semantics.specs.SetFunctions.{functions_of}
use Rattle.query_typecheck.specs.Typing.{IsColumn, IsTypedAggregate, IsTypedName, IsTypedOperand, may_stand, IsOfKinds, takes}
use Rattle.semantics.specs.Types.{aggregate_kind, key_expression, literal_kind, operand_kind}
use Rattle.query_typecheck.specs.FirstFaults.{Answers, first_fault, column_fault, name_fault, expression_fault, operand_fault, agreement_fault, between_agreement, member_agreement, predicate_fault, parts_fault, clause_fault, header_fault, headers_fault, limit_fault, query_fault, tests_of}
use Rattle.semantics.specs.Faults.{same_kind}
use Rattle.query_typecheck.specs.Standing.{AreOfTwoKinds, Disagrees, IsAtomIn, IsViolation, StandsIn, StandsTwice, atoms, operands, parts_atoms}
use Rattle.query_typecheck.proofs.TypedLemmas.{name_from_none, operand_from_none, same_itself}
use Rattle.query_typecheck.proofs.StandingLemmas.{FiltersStand, column_has_kind, column_stands, either, expression_stands, fails, first_at, kind_fails, mapped, name_stands}

-- ---- operands

-- An expression among the operands of an atom in a clause stands in that clause.
in_atom : (t : Query) (c : Clause) (p : Predicate) (e : Expression) → IsAtomIn t c p → Contains (operands p) (expression e) → StandsIn t c e
in_atom t clause.Where p e atom among = (p, atom, among)
in_atom t clause.Select p e atom among = let below = atom.1 in absurd (omega arith)
in_atom t clause.Having p e atom among = (p, atom, among)
in_atom t clause.OrderBy p e atom among = let below = atom.1 in absurd (omega arith)

-- An operand with a fault.
operand_stands : (fields : List Field) (t : Query) (c : Clause) (p : Predicate) (x : Operand) (f : QueryFault) → (c ≢ clause.Where → FiltersStand fields t f) → IsAtomIn t c p → Contains (operands p) x → operand_fault fields (grouping_places fields t) c x ≡ Some f → IsViolation fields t f
operand_stands fields t c p (expression e) f deeper atom among h = expression_stands fields t c e f deeper (in_atom t c p e atom among) h
operand_stands fields t c p (literal a) f deeper atom among h = absurd cc

-- Where atoms stand, AVG may not.
no_average : (t : Query) (c : Clause) (p : Predicate) (x : List ℕ) → IsAtomIn t c p → may_stand c (aggregate.Avg x) ≡ true → ⊥
no_average t clause.Where p x atom may = absurd cc
no_average t clause.Select p x atom may = let below = atom.1 in absurd (omega arith)
no_average t clause.Having p x atom may = absurd cc
no_average t clause.OrderBy p x atom may = absurd cc

-- A grouping column is a column.
grouped_is_column : (grouped : List ℕ) (o : Option ℕ) → IsSomeAnd o (λ place. Contains grouped place) → IsSome o
grouped_is_column grouped None h = absurd h
grouped_is_column grouped (Some place) h = refl

-- A name that may stand in its clause is a column.
typed_is_column : (fields : List Field) (grouped : List ℕ) (c : Clause) (n : List ℕ) → IsTypedName fields grouped c n → IsColumn fields n
typed_is_column fields grouped clause.Where n h = h
typed_is_column fields grouped clause.Select n h = grouped_is_column grouped (place_of fields n) h
typed_is_column fields grouped clause.Having n h = grouped_is_column grouped (place_of fields n) h
typed_is_column fields grouped clause.OrderBy n h = grouped_is_column grouped (place_of fields n) h

-- A column of one of some types has a type.
of_kinds_has_kind : (o : Option Kind) (P : Kind → Type 0) → IsSomeAnd o P → IsSome o
of_kinds_has_kind None P h = absurd h
of_kinds_has_kind (Some k) P h = refl

-- A typed set function other than AVG has a type.
aggregate_has_kind : (fields : List Field) (c : Clause) (a : Aggregate) → ((n : List ℕ) → may_stand c (aggregate.Avg n) ≡ true → ⊥) → may_stand c a ≡ true → IsTypedAggregate fields a → IsSome (aggregate_kind fields a)
aggregate_has_kind fields c aggregate.CountRows never may h = refl
aggregate_has_kind fields c (aggregate.Count n) never may h = refl
aggregate_has_kind fields c (aggregate.CountDistinct n) never may h = refl
aggregate_has_kind fields c (aggregate.Sum n) never may h = refl
aggregate_has_kind fields c (aggregate.Min n) never may h =
    of_kinds_has_kind (column_kind fields n) (Contains (takes (aggregate.Min n))) (All-head (IsOfKinds fields (takes (aggregate.Min n))) n [] h)
aggregate_has_kind fields c (aggregate.Max n) never may h =
    of_kinds_has_kind (column_kind fields n) (Contains (takes (aggregate.Max n))) (All-head (IsOfKinds fields (takes (aggregate.Max n))) n [] h)
aggregate_has_kind fields c (aggregate.Avg n) never may h = absurd (never n may)

-- A typed operand of an atom has a type.
typed_has_kind : (fields : List Field) (grouped : List ℕ) (c : Clause) (x : Operand) → ((n : List ℕ) → may_stand c (aggregate.Avg n) ≡ true → ⊥) → IsTypedOperand fields grouped c x → IsSome (operand_kind fields x)
typed_has_kind fields grouped c (expression (name n)) never h = column_has_kind fields n (typed_is_column fields grouped c n h)
typed_has_kind fields grouped c (expression (grouping ns)) never h = refl
typed_has_kind fields grouped c (expression (function (over_all a))) never h = aggregate_has_kind fields c a never h.0 h.1
typed_has_kind fields grouped c (expression (function (over_filtered a p))) never h = aggregate_has_kind fields c a never h.0 h.1
typed_has_kind fields grouped c (literal a) never h = refl

-- An operand of an atom without a fault has a type.
operand_has_kind : (fields : List Field) (t : Query) (c : Clause) (p : Predicate) (x : Operand) → IsAtomIn t c p → operand_fault fields (grouping_places fields t) c x ≡ None → IsSome (operand_kind fields x)
operand_has_kind fields t c p x atom h = typed_has_kind fields (grouping_places fields t) c x (λ n. no_average t c p n atom) (operand_from_none fields (grouping_places fields t) c x h)

-- ---- types

-- Types that fail the test differ.
differ : (k l : Kind) → same_kind k l ≡ false → k ≢ l
differ k l h e = let itself = same_itself l in let same : same_kind k l ≡ true = rw e itself in let clash : ⊥ = cc in clash

-- Types that do not agree, where there are two, are two types.
two_kinds : (a b : Option Kind) (f : QueryFault) → IsSome a → IsSome b → agreement_fault a b ≡ Some f → AreOfTwoKinds a b × (TypesDisagree ≡ f)
two_kinds None b f some_a some_b h = absurd cc
two_kinds (Some k) None f some_a some_b h = absurd cc
two_kinds (Some k) (Some l) f some_a some_b h = let n = fails (same_kind k l) TypesDisagree f h in ((k, l, refl, refl, differ k l n.0), n.1)

-- Two operands of an atom whose types do not agree.
pair_stands : (fields : List Field) (t : Query) (c : Clause) (p : Predicate) (x y : Operand) (f : QueryFault) → IsAtomIn t c p → (AreOfTwoKinds (operand_kind fields x) (operand_kind fields y) → Disagrees fields p) → operand_fault fields (grouping_places fields t) c x ≡ None → operand_fault fields (grouping_places fields t) c y ≡ None → agreement_fault (operand_kind fields x) (operand_kind fields y) ≡ Some f → IsViolation fields t f
pair_stands fields t c p x y f atom disagree fine_x fine_y h =
    let two = two_kinds (operand_kind fields x) (operand_kind fields y) f (operand_has_kind fields t c p x atom fine_x) (operand_has_kind fields t c p y atom fine_y) h in
    subst (IsViolation fields t) two.1 (inl (c, p, atom, disagree two.0))

-- ---- atoms

-- A comparison with a fault.
compare_stands : (fields : List Field) (t : Query) (c : Clause) (p : Predicate) (x y : Operand) (f : QueryFault) → (c ≢ clause.Where → FiltersStand fields t f) → IsAtomIn t c p → Contains (operands p) x → Contains (operands p) y → (AreOfTwoKinds (operand_kind fields x) (operand_kind fields y) → Disagrees fields p) → option_or (operand_fault fields (grouping_places fields t) c x) (option_or (operand_fault fields (grouping_places fields t) c y) (agreement_fault (operand_kind fields x) (operand_kind fields y))) ≡ Some f → IsViolation fields t f
compare_stands fields t c p x y f deeper atom in_x in_y disagree h =
    either (operand_fault fields (grouping_places fields t) c x) _ f (IsViolation fields t f)
    (λ k. operand_stands fields t c p x f deeper atom in_x k)
    (λ fine_x later. either (operand_fault fields (grouping_places fields t) c y) _ f (IsViolation fields t f)
    (λ k. operand_stands fields t c p y f deeper atom in_y k)
    (λ fine_y last. pair_stands fields t c p x y f atom disagree fine_x fine_y last)
    later)
    h

-- A BETWEEN with a fault.
between_stands : (fields : List Field) (t : Query) (c : Clause) (x : Operand) (n : Bool) (y z : Operand) (f : QueryFault) → (c ≢ clause.Where → FiltersStand fields t f) → IsAtomIn t c (between x n y z) → predicate_fault fields (grouping_places fields t) c (between x n y z) ≡ Some f → IsViolation fields t f
between_stands fields t c x n y z f deeper atom h =
    let p = between x n y z in
    let in_x : Contains (operands p) x = (0, omega arith, refl) in
    let in_y : Contains (operands p) y = (1, omega arith, refl) in
    let in_z : Contains (operands p) z = (2, omega arith, refl) in
    either (operand_fault fields (grouping_places fields t) c x) _ f (IsViolation fields t f)
    (λ k. operand_stands fields t c p x f deeper atom in_x k)
    (λ fine_x h1. either (operand_fault fields (grouping_places fields t) c y) _ f (IsViolation fields t f)
    (λ k. operand_stands fields t c p y f deeper atom in_y k)
    (λ fine_y h2. either (operand_fault fields (grouping_places fields t) c z) _ f (IsViolation fields t f)
    (λ k. operand_stands fields t c p z f deeper atom in_z k)
    (λ fine_z h3. either (agreement_fault (operand_kind fields x) (operand_kind fields y)) _ f (IsViolation fields t f)
    (λ k. pair_stands fields t c p x y f atom (λ two. (x, y, in_x, in_y, two)) fine_x fine_y k)
    (λ _ h4. pair_stands fields t c p x z f atom (λ two. (x, z, in_x, in_z, two)) fine_x fine_z h4)
    h3)
    h2)
    h1)
    h

-- An IN with a fault.
member_stands : (fields : List Field) (t : Query) (c : Clause) (x : Operand) (n : Bool) (ls : List Literal) (f : QueryFault) → (c ≢ clause.Where → FiltersStand fields t f) → IsAtomIn t c (member x n ls) → predicate_fault fields (grouping_places fields t) c (member x n ls) ≡ Some f → IsViolation fields t f
member_stands fields t c x n ls f deeper atom h =
    let p = member x n ls in
    let in_x : Contains (operands p) x = (0, omega arith, refl) in
    either (operand_fault fields (grouping_places fields t) c x) _ f (IsViolation fields t f)
    (λ k. operand_stands fields t c p x f deeper atom in_x k)
    (λ fine_x later.
    let found = first_at (λ a. agreement_fault (operand_kind fields x) (Some (literal_kind a))) ls f later in
    let in_a : Contains (operands p) (literal found.0) = Contains-append_right (x ∷ []) (map literal ls) (literal found.0) (mapped literal ls found.0 found.1) in
    pair_stands fields t c p x (literal found.0) f atom (λ two. (x, literal found.0, in_x, in_a, two)) fine_x refl found.2)
    h

-- A name that stands alone, with a fault.
truth_stands : (fields : List Field) (t : Query) (c : Clause) (n : List ℕ) (f : QueryFault) → IsAtomIn t c (column n) → predicate_fault fields (grouping_places fields t) c (column n) ≡ Some f → IsViolation fields t f
truth_stands fields t c n f atom h =
    either (name_fault fields (grouping_places fields t) c n) _ f (IsViolation fields t f)
    (λ k. name_stands fields t c n f (in_atom t c (column n) (name n) atom (0, omega arith, refl)) k)
    (λ fine later.
    let k = kind_fails fields (kind.Bool ∷ []) n f (typed_is_column fields (grouping_places fields t) c n (name_from_none fields (grouping_places fields t) c n fine)) later in
    subst (IsViolation fields t) k.3 (inl (c, column n, atom, (k.0, kind.Bool, k.1, refl, λ e. k.2 (0, omega arith, sym e)))))
    h

-- ---- predicates

mutual
  -- A predicate with a fault, whose atoms stand in a clause.
  predicate_stands : (fields : List Field) (t : Query) (c : Clause) (p : Predicate) (f : QueryFault) → (c ≢ clause.Where → FiltersStand fields t f) → ((a : Predicate) → Contains (atoms p) a → IsAtomIn t c a) → predicate_fault fields (grouping_places fields t) c p ≡ Some f → IsViolation fields t f
  predicate_stands fields t c (or_of ps) f deeper inside h = parts_stand fields t c ps f deeper inside h
  predicate_stands fields t c (and_of ps) f deeper inside h = parts_stand fields t c ps f deeper inside h
  predicate_stands fields t c (not_of p) f deeper inside h = predicate_stands fields t c p f deeper inside h
  predicate_stands fields t c (truth_test p n u) f deeper inside h = predicate_stands fields t c p f deeper inside h
  predicate_stands fields t c (compare x o y) f deeper inside h =
      let p = compare x o y in
      compare_stands fields t c p x y f deeper (inside p (0, omega arith, refl)) (0, omega arith, refl) (1, omega arith, refl) (λ two. (x, y, (0, omega arith, refl), (1, omega arith, refl), two)) h
  predicate_stands fields t c (between x n y z) f deeper inside h = between_stands fields t c x n y z f deeper (inside (between x n y z) (0, omega arith, refl)) h
  predicate_stands fields t c (member x n ls) f deeper inside h = member_stands fields t c x n ls f deeper (inside (member x n ls) (0, omega arith, refl)) h
  predicate_stands fields t c (null_test x n) f deeper inside h = operand_stands fields t c (null_test x n) x f deeper (inside (null_test x n) (0, omega arith, refl)) (0, omega arith, refl) h
  predicate_stands fields t c (column n) f deeper inside h = truth_stands fields t c n f (inside (column n) (0, omega arith, refl)) h

  -- Parts with a fault, whose atoms stand in a clause.
  parts_stand : (fields : List Field) (t : Query) (c : Clause) (ps : Predicates) (f : QueryFault) → (c ≢ clause.Where → FiltersStand fields t f) → ((a : Predicate) → Contains (parts_atoms ps) a → IsAtomIn t c a) → parts_fault fields (grouping_places fields t) c ps ≡ Some f → IsViolation fields t f
  parts_stand fields t c no_parts f deeper inside h = absurd cc
  parts_stand fields t c (part p ps) f deeper inside h =
      either (predicate_fault fields (grouping_places fields t) c p) (parts_fault fields (grouping_places fields t) c ps) f (IsViolation fields t f)
      (λ k. predicate_stands fields t c p f deeper (λ a at. inside a (Contains-append_left (atoms p) (parts_atoms ps) a at)) k)
      (λ _ k. parts_stand fields t c ps f deeper (λ a at. inside a (Contains-append_right (atoms p) (parts_atoms ps) a at)) k)
      h

-- ---- FILTER

-- In WHERE the fault of an operand does not depend on the grouping columns.
operand_anywhere : (fields : List Field) (grouped other : List ℕ) (x : Operand) → operand_fault fields grouped clause.Where x ≡ operand_fault fields other clause.Where x
operand_anywhere fields grouped other (expression (name n)) = refl
operand_anywhere fields grouped other (expression (grouping ns)) = refl
operand_anywhere fields grouped other (expression (function f)) = refl
operand_anywhere fields grouped other (literal a) = refl

mutual
  -- Nor does that of a predicate.
  predicate_anywhere : (fields : List Field) (grouped other : List ℕ) (p : Predicate) → predicate_fault fields grouped clause.Where p ≡ predicate_fault fields other clause.Where p
  predicate_anywhere fields grouped other (or_of ps) = parts_anywhere fields grouped other ps
  predicate_anywhere fields grouped other (and_of ps) = parts_anywhere fields grouped other ps
  predicate_anywhere fields grouped other (not_of p) = predicate_anywhere fields grouped other p
  predicate_anywhere fields grouped other (truth_test p n u) = predicate_anywhere fields grouped other p
  predicate_anywhere fields grouped other (compare x o y) =
      ap (λ k. option_or k (option_or (operand_fault fields grouped clause.Where y) (agreement_fault (operand_kind fields x) (operand_kind fields y)))) (operand_anywhere fields grouped other x)
      ∙ ap (λ k. option_or (operand_fault fields other clause.Where x) (option_or k (agreement_fault (operand_kind fields x) (operand_kind fields y)))) (operand_anywhere fields grouped other y)
  predicate_anywhere fields grouped other (between x n y z) =
      ap (λ k. option_or k (option_or (operand_fault fields grouped clause.Where y) (option_or (operand_fault fields grouped clause.Where z) (between_agreement fields x y z)))) (operand_anywhere fields grouped other x)
      ∙ ap (λ k. option_or (operand_fault fields other clause.Where x) (option_or k (option_or (operand_fault fields grouped clause.Where z) (between_agreement fields x y z)))) (operand_anywhere fields grouped other y)
      ∙ ap (λ k. option_or (operand_fault fields other clause.Where x) (option_or (operand_fault fields other clause.Where y) (option_or k (between_agreement fields x y z)))) (operand_anywhere fields grouped other z)
  predicate_anywhere fields grouped other (member x n ls) = ap (λ k. option_or k (member_agreement fields x ls)) (operand_anywhere fields grouped other x)
  predicate_anywhere fields grouped other (null_test x n) = operand_anywhere fields grouped other x
  predicate_anywhere fields grouped other (column n) = refl

  -- Nor does that of parts.
  parts_anywhere : (fields : List Field) (grouped other : List ℕ) (ps : Predicates) → parts_fault fields grouped clause.Where ps ≡ parts_fault fields other clause.Where ps
  parts_anywhere fields grouped other no_parts = refl
  parts_anywhere fields grouped other (part p ps) =
      ap (λ k. option_or k (parts_fault fields grouped clause.Where ps)) (predicate_anywhere fields grouped other p)
      ∙ ap (λ k. option_or (predicate_fault fields other clause.Where p) k) (parts_anywhere fields grouped other ps)

-- A FILTER with a fault.
filter_stands : (fields : List Field) (t : Query) (f : QueryFault) → FiltersStand fields t f
filter_stands fields t f p at h =
    predicate_stands fields t clause.Where p f (λ other. absurd (other refl)) (λ a among. inr (p, at, among)) (predicate_anywhere fields (grouping_places fields t) [] p ∙ h)

-- ---- clauses

-- A clause of a predicate with a fault.
clause_stands : (fields : List Field) (t : Query) (c : Clause) (o : Option Predicate) (f : QueryFault) → ((a : Predicate) → Contains (option_map_or atoms o []) a → IsAtomIn t c a) → clause_fault fields (grouping_places fields t) c o ≡ Some f → IsViolation fields t f
clause_stands fields t c None f inside h = absurd cc
clause_stands fields t c (Some p) f inside h = predicate_stands fields t c p f (λ _. filter_stands fields t f) inside h

-- ---- headers and limits

-- What the test finds is there.
found_among : (h : List ℕ) (headers : List (List ℕ)) → list_any (bytes_eq h) headers ≡ true → Contains headers h
found_among h [] found = absurd cc
found_among h (g ∷ gs) found =
    elim (bytes_eq h g) as (λ (t : Bool). bytes_eq h g ≡ t → (t || list_any (bytes_eq h) gs) ≡ true → Contains (g ∷ gs) h) [
      | true ↦ λ e _. (0, omega arith, sym ((bytes_eq-Decides h g).0 e))
      | false ↦ λ _ k. Contains-append_right (g ∷ []) gs h (found_among h gs k)
    ] refl found

-- A test that fails by its negation holds.
not_false : (t : Bool) → not t ≡ false → t ≡ true
not_false true h = refl
not_false false h = absurd cc

-- A header with a fault, behind others, stands twice.
header_stands : (done rest : List (List ℕ)) (f : QueryFault) → first_fault (λ p. header_fault (take p.0 (done ++ rest)) p.1) (enumerate_from (length done) rest) ≡ Some f → (h : List ℕ) × StandsTwice h (done ++ rest) × (RepeatedHeader h ≡ f)
header_stands done [] f h = absurd cc
header_stands done (g ∷ rest) f h =
    let all = done ++ g ∷ rest in
    either (header_fault (take (length done) all) g) _ f ((r : List ℕ) × StandsTwice r all × (RepeatedHeader r ≡ f))
    (λ k.
    let seam : take (length done) all ≡ done = take-append_seam done (g ∷ rest) in
    let n = fails (not (list_any (bytes_eq g) (take (length done) all))) (RepeatedHeader g) f k in
    let met : list_any (bytes_eq g) done ≡ true = ap (λ (hs : List (List ℕ)). list_any (bytes_eq g) hs) (sym seam) ∙ not_false (list_any (bytes_eq g) (take (length done) all)) n.0 in
    (g, (done, rest, refl, found_among g done met), n.1))
    (λ _ later.
    let assoc : (done ++ g ∷ []) ++ rest ≡ all = append_assoc done (g ∷ []) rest in
    let more : first_fault (λ p. header_fault (take p.0 ((done ++ g ∷ []) ++ rest)) p.1) (enumerate_from (length (done ++ g ∷ [])) rest) ≡ Some f =
    ap (λ (n : ℕ). first_fault (λ p. header_fault (take p.0 ((done ++ g ∷ []) ++ rest)) p.1) (enumerate_from n rest)) (length_push done g)
    ∙ ap (λ (hs : List (List ℕ)). first_fault (λ p. header_fault (take p.0 hs) p.1) (enumerate_from (length done + 1) rest)) assoc
    ∙ later in
    let found = header_stands (done ++ g ∷ []) rest f more in
    (found.0, subst (λ (hs : List (List ℕ)). StandsTwice found.0 hs) assoc found.1, found.2))
    h

-- A number over the limit.
over : (most n : ℕ) (f : QueryFault) → limit_fault most n ≡ Some f → (most < n) × (OverLimit ≡ f)
over most n f h =
    let k = fails (not (nat_lt most n)) OverLimit f h in
    let more = not_false (nat_lt most n) k.0 in
    (grind (arith, nat_tests), k.1)

-- ---- the query

-- The first fault of a query stands in it.
pub first_stands : (fields : List Field) (t : Query) (f : QueryFault) → query_fault fields t ≡ Some f → IsViolation fields t f
unfolding tests_of
first_stands fields t f h =
    let grouped = grouping_places fields t in
    either (clause_fault fields grouped clause.Where t.where_condition) _ f (IsViolation fields t f)
    (λ k. clause_stands fields t clause.Where t.where_condition f (λ a at. inl at) k)
    (λ _ a. either (first_fault (column_fault fields) (grouping_names t)) _ f (IsViolation fields t f)
    (λ k. let found = first_at (column_fault fields) (grouping_names t) f k in column_stands fields t found.0 f (inl found.1) found.2)
    (λ _ b. either (limit_fault 256 (length (expansion t.groups))) _ f (IsViolation fields t f)
    (λ k. let n = over 256 (length (expansion t.groups)) f k in subst (IsViolation fields t) n.1 (inl n.0))
    (λ _ c. either (first_fault (λ (i : SelectItem). expression_fault fields grouped clause.Select i.expression) t.items) _ f (IsViolation fields t f)
    (λ k.
    let found = first_at (λ (i : SelectItem). expression_fault fields grouped clause.Select i.expression) t.items f k in
    expression_stands fields t clause.Select found.0.expression f (λ _. filter_stands fields t f) (mapped (λ (i : SelectItem). i.expression) t.items found.0 found.1) found.2)
    (λ _ d. either (headers_fault (map header_text t.items)) _ f (IsViolation fields t f)
    (λ k. let n = header_stands [] (map header_text t.items) f k in subst (IsViolation fields t) n.2 n.1)
    (λ _ e. either (clause_fault fields grouped clause.Having t.having_condition) _ f (IsViolation fields t f)
    (λ k. clause_stands fields t clause.Having t.having_condition f (λ a at. at) k)
    (λ _ g. either (first_fault (λ (k : SortKey). expression_fault fields grouped clause.OrderBy (key_expression t.items k.expression)) t.keys) _ f (IsViolation fields t f)
    (λ k.
    let found = first_at (λ (k : SortKey). expression_fault fields grouped clause.OrderBy (key_expression t.items k.expression)) t.keys f k in
    expression_stands fields t clause.OrderBy (key_expression t.items found.0.expression) f (λ _. filter_stands fields t f) (mapped (λ (k : SortKey). key_expression t.items k.expression) t.keys found.0 found.1) found.2)
    (λ _ i. either (limit_fault 64 (length (functions_of fields t))) None f (IsViolation fields t f)
    (λ k. let n = over 64 (length (functions_of fields t)) f k in subst (IsViolation fields t) n.1 (inr n.0))
    (λ _ j. absurd cc)
    i)
    g)
    e)
    d)
    c)
    b)
    a)
    h

-- A query that is refused, other than for want of memory, has the fault.
pub stands_err : {X : Type 0} (fields : List Field) (t : Query) (r : Result X QueryFault) → Answers r (query_fault fields t) → IfErr r (λ f. f ≢ OutOfMemory → IsViolation fields t f)
stands_err fields t (Ok x) h = tt
stands_err fields t (Err f) h = λ other. first_stands fields t f (h other)
