-- The first of the faults of a query is the fault that is told.
use Rattle.std.proofs.Common.{◌≡◌, ◌∙◌, ℕ, nat_lt, nat_le, Bool, true, false, not, ◌&&◌, cond, List, [], ◌∷◌, ◌++◌, length, map, take, Option, Some, None, refl, sym, ap, arith}
use Rattle.std.specs.Prelude.{◌↔◌, slice_get, is_some}
use Rattle.std.specs.List.{enumerate_from, flat_map, list_any}
use Rattle.std.specs.Option.{option_map_or, option_or}
use Rattle.std.specs.Str.{bytes_eq}
use Rattle.std.proofs.lemmas.Bool.Decides.{nat_tests}
use Rattle.std.proofs.lemmas.List.Concat.{flat_map-append}
use Rattle.semantics.specs.declared.kind.Kind.{Kind}
use Rattle.semantics.specs.declared.kind.Kind.TheVariants as kind
use Rattle.semantics.specs.Columns.{Field}
use Rattle.semantics.specs.declared.aggregate.Aggregate.{Aggregate}
use Rattle.semantics.specs.declared.aggregate.Aggregate.TheVariants as aggregate
use Rattle.semantics.specs.declared.literal.Literal.{Literal}
use Rattle.semantics.specs.declared.literal.Literal.TheVariants as constant
use Rattle.semantics.specs.Syntax.{Expression, SetFunction, SelectItem, SortKey, Operand, Predicate, Predicates, Query, name, grouping, function, over_all, over_filtered, expression, literal, or_of, and_of, not_of, truth_test, compare, between, member, null_test, column, no_parts, part, operands_of_atoms, operands_of_parts}
use Rattle.semantics.specs.Canonical.{header_text}
use Rattle.semantics.specs.declared.query_fault.QueryFault.{QueryFault}
use Rattle.semantics.specs.declared.query_fault.QueryFault.TheVariants.{UnknownColumn, TypesDisagree, NotGrouped, OverLimit, FunctionNotAllowed, RepeatedHeader}
use Rattle.query_typecheck.specs.declared.scope.Clause.{Clause}
use Rattle.query_typecheck.specs.declared.scope.Clause.TheVariants as clause
use Rattle.semantics.specs.Names.{column_kind, place_of}
use Rattle.semantics.specs.Sets.{expansion, grouping_names, grouping_places}
use Rattle.semantics.specs.SetFunctions.{functions_of}
use Rattle.query_typecheck.specs.Typing.{IsTyped, may_stand}
use Rattle.semantics.specs.Types.{is_average, key_expression, literal_kind, operand_kind}
use Rattle.semantics.specs.Faults.{agreement_faults, argument_faults, atom_faults, clause_faults, column_faults, function_faults, group_faults, grouped_faults, header_faults, operand_faults, predicate_faults, query_faults, record_faults, same_kind, typed_column_faults, unless}
use Rattle.query_typecheck.specs.FirstFaults.{agreement_fault, aggregate_fault, argument_fault, clause_fault, column_fault, expression_fault, fault_unless, first_fault, function_fault, grouped_at_fault, grouped_fault, header_fault, headers_fault, kind_fault, limit_fault, operand_fault, parts_fault, predicate_fault, query_fault, tests_of}
use Rattle.query_typecheck.specs.Standing.{IsViolation}
use Rattle.query_typecheck.proofs.FaultNames.{among_groups}
use Rattle.query_typecheck.proofs.StandingWhole.{first_stands}
use Rattle.query_typecheck.proofs.WholeLemmas.{none_from_typed, typed_from_none}

-- ---- lists

-- The first of a list.
abbrev first : {A : Type 0} → List A → Option A
first xs = slice_get xs 0

-- The first of two lists, one after the other.
then_first : {A : Type 0} (xs ys : List A) (a b : Option A) → first xs ≡ a → first ys ≡ b → first (xs ++ ys) ≡ option_or a b
then_first {A} [] ys a b p q = q ∙ ap (λ (o : Option A). option_or o b) p
then_first {A} (x ∷ xs) ys a b p q = ap (λ (o : Option A). option_or o b) p

-- The first of all that some elements give.
each_first : {A : Type 0} (f : A → List QueryFault) (g : A → Option QueryFault) → ((x : A) → first (f x) ≡ g x) → (xs : List A) → first (flat_map f xs) ≡ first_fault g xs
each_first f g same [] = refl
each_first f g same (x ∷ xs) = then_first (f x) (flat_map f xs) (g x) (first_fault g xs) (same x) (each_first f g same xs)

-- An option or none.
or_none : {A : Type 0} (o : Option A) → option_or o None ≡ o
or_none None = refl
or_none (Some x) = refl

-- The first of all that one element gives.
one_first : {A : Type 0} (f : A → List QueryFault) (x : A) (o : Option QueryFault) → first (f x) ≡ o → first (flat_map f (x ∷ [])) ≡ o
one_first f x o same = then_first (f x) [] o None same refl ∙ or_none o

-- The first of all that elements of two lists give.
lists_first : {A : Type 0} (f : A → List QueryFault) (xs ys : List A) (a b : Option QueryFault) → first (flat_map f xs) ≡ a → first (flat_map f ys) ≡ b → first (flat_map f (xs ++ ys)) ≡ option_or a b
lists_first f xs ys a b p q = ap first (flat_map-append f xs ys) ∙ then_first (flat_map f xs) (flat_map f ys) a b p q

-- ---- names and types

-- A test in a list of faults, and alone.
unless_first : (t : Bool) (f : QueryFault) → first (unless t f) ≡ fault_unless t f
unless_first true f = refl
unless_first false f = refl

-- A name that is to be a column.
column_first : (fields : List Field) (n : List ℕ) → first (column_faults fields n) ≡ column_fault fields n
column_first fields n = unless_first (is_some (place_of fields n)) (UnknownColumn n)

-- A name at its place, where it has one, that is to be a grouping column.
grouped_place : (fields : List Field) (t : Query) (n : List ℕ) (o : Option ℕ) → place_of fields n ≡ o → first (unless (is_some o) (UnknownColumn n) ++ unless (list_any (bytes_eq n) (grouping_names t)) (NotGrouped n)) ≡ grouped_at_fault (grouping_places fields t) n o
grouped_place fields t n None at = refl
grouped_place fields t n (Some place) at =
    unless_first (list_any (bytes_eq n) (grouping_names t)) (NotGrouped n)
    ∙ ap (λ (b : Bool). fault_unless b (NotGrouped n)) (sym (among_groups fields t n place at))

-- A name that is to be a grouping column.
grouped_first : (fields : List Field) (t : Query) (n : List ℕ) → first (grouped_faults fields (grouping_names t) n) ≡ grouped_fault fields (grouping_places fields t) n
grouped_first fields t n = grouped_place fields t n (place_of fields n) refl

-- Two types that are to be one.
agreement_first : (k l : Option Kind) → first (agreement_faults k l) ≡ agreement_fault k l
agreement_first None None = refl
agreement_first None (Some l) = refl
agreement_first (Some k) None = refl
agreement_first (Some k) (Some l) = unless_first (same_kind k l) TypesDisagree

-- A name that stands alone, beside TRUE.
truth_first : (k : Option Kind) → agreement_fault k (Some kind.Bool) ≡ kind_fault (kind.Bool ∷ []) k
truth_first None = refl
truth_first (Some kind.Int) = refl
truth_first (Some kind.Text) = refl
truth_first (Some kind.Bool) = refl

-- A name that is to be a column of one of some types.
typed_column_first : (fields : List Field) (kinds : List Kind) (n : List ℕ) → first (typed_column_faults fields (n, kinds)) ≡ argument_fault fields kinds n
typed_column_first fields kinds n =
    let test = option_map_or (λ k. list_any (same_kind k) kinds) (column_kind fields n) false in
    then_first (column_faults fields n) (unless test TypesDisagree) (column_fault fields n) (kind_fault kinds (column_kind fields n)) (column_first fields n) (unless_first test TypesDisagree)

-- The one argument of a set function.
only_argument : (fields : List Field) (kinds : List Kind) (n : List ℕ) → first (typed_column_faults fields (n, kinds) ++ []) ≡ option_or (argument_fault fields kinds n) None
only_argument fields kinds n = then_first (typed_column_faults fields (n, kinds)) [] (argument_fault fields kinds n) None (typed_column_first fields kinds n) refl

-- The argument of a set function.
argument_first : (fields : List Field) (a : Aggregate) → first (argument_faults fields a) ≡ aggregate_fault fields a
argument_first fields aggregate.CountRows = refl
argument_first fields (aggregate.Count x) = only_argument fields (kind.Int ∷ kind.Text ∷ kind.Bool ∷ []) x
argument_first fields (aggregate.CountDistinct x) = only_argument fields (kind.Int ∷ kind.Text ∷ kind.Bool ∷ []) x
argument_first fields (aggregate.Sum x) = only_argument fields (kind.Int ∷ []) x
argument_first fields (aggregate.Min x) = only_argument fields (kind.Int ∷ kind.Text ∷ []) x
argument_first fields (aggregate.Max x) = only_argument fields (kind.Int ∷ kind.Text ∷ []) x
argument_first fields (aggregate.Avg x) = only_argument fields (kind.Int ∷ []) x

-- ---- predicates

-- Tests of one, two, three and more operands, and then of their types, however they are taken
-- together.
after_one : (a : Option QueryFault) → option_or (option_or a None) None ≡ a
after_one None = refl
after_one (Some x) = refl

after_two : (a b c : Option QueryFault) → option_or (option_or a (option_or b None)) (option_or c None) ≡ option_or a (option_or b c)
after_two (Some x) b c = refl
after_two None (Some x) c = refl
after_two None None (Some x) = refl
after_two None None None = refl

after_three : (a b c d e : Option QueryFault) → option_or (option_or a (option_or b (option_or c None))) (option_or d (option_or e None)) ≡ option_or a (option_or b (option_or c (option_or d e)))
after_three (Some x) b c d e = refl
after_three None (Some x) c d e = refl
after_three None None (Some x) d e = refl
after_three None None None (Some x) e = refl
after_three None None None None (Some x) = refl
after_three None None None None None = refl

-- The first fault of literals: there is none.
literals_sound : (fields : List Field) (grouped : List ℕ) (c : Clause) (ls : List Literal) → first_fault (operand_fault fields grouped c) (map literal ls) ≡ None
literals_sound fields grouped c [] = refl
literals_sound fields grouped c (a ∷ ls) = literals_sound fields grouped c ls

-- The first literal that disagrees, as an operand and as a literal.
literals_agree : (fields : List Field) (k : Option Kind) (ls : List Literal) → first_fault (λ y. agreement_fault k (operand_kind fields y)) (map literal ls) ≡ first_fault (λ a. agreement_fault k (Some (literal_kind a))) ls
literals_agree fields k [] = refl
literals_agree fields k (a ∷ ls) = ap (λ (o : Option QueryFault). option_or (agreement_fault k (Some (literal_kind a))) o) (literals_agree fields k ls)

-- The faults of a name that stands alone, however its two tests are taken together.
after_name : (a b c : Option QueryFault) → b ≡ c → option_or (option_or a None) (option_or b None) ≡ option_or a c
after_name (Some x) b c e = refl
after_name None b c e = or_none b ∙ e

-- Predicates in a clause, given the faults of each expression there.
module _ (fields : List Field) (grouped : List ℕ) (c : Clause) (of_expression : Expression → List QueryFault) (same : (e : Expression) → first (of_expression e) ≡ expression_fault fields grouped c e) where
  operand_first : (x : Operand) → first (operand_faults of_expression x) ≡ operand_fault fields grouped c x
  operand_first (expression e) = same e
  operand_first (literal a) = refl

  -- The operands of an atom, and then their types.
  operands_first : (x : Operand) (xs : List Operand) → first (atom_faults of_expression fields (x ∷ xs)) ≡ option_or (first_fault (operand_fault fields grouped c) (x ∷ xs)) (first_fault (λ y. agreement_fault (operand_kind fields x) (operand_kind fields y)) xs)
  operands_first x xs =
      then_first (flat_map (operand_faults of_expression) (x ∷ xs)) (flat_map (λ y. agreement_faults (operand_kind fields x) (operand_kind fields y)) xs) _ _
      (each_first (operand_faults of_expression) (operand_fault fields grouped c) operand_first (x ∷ xs))
      (each_first (λ y. agreement_faults (operand_kind fields x) (operand_kind fields y)) (λ y. agreement_fault (operand_kind fields x) (operand_kind fields y)) (λ y. agreement_first (operand_kind fields x) (operand_kind fields y)) xs)

  -- The one atom of a predicate.
  atom_first : (x : Operand) (xs : List Operand) (o : Option QueryFault) → option_or (first_fault (operand_fault fields grouped c) (x ∷ xs)) (first_fault (λ y. agreement_fault (operand_kind fields x) (operand_kind fields y)) xs) ≡ o → first (flat_map (atom_faults of_expression fields) ((x ∷ xs) ∷ [])) ≡ o
  atom_first x xs o e = one_first (atom_faults of_expression fields) (x ∷ xs) o (operands_first x xs ∙ e)

  mutual
    -- The first fault of a predicate.
    predicate_first : (p : Predicate) → first (predicate_faults of_expression fields p) ≡ predicate_fault fields grouped c p
    predicate_first (or_of ps) = parts_first ps
    predicate_first (and_of ps) = parts_first ps
    predicate_first (not_of p) = predicate_first p
    predicate_first (truth_test p n t) = predicate_first p
    predicate_first (compare x o y) =
        atom_first x (y ∷ []) _
        (after_two (operand_fault fields grouped c x) (operand_fault fields grouped c y) (agreement_fault (operand_kind fields x) (operand_kind fields y)))
    predicate_first (between x n y z) =
        atom_first x (y ∷ z ∷ []) _
        (after_three (operand_fault fields grouped c x) (operand_fault fields grouped c y) (operand_fault fields grouped c z) (agreement_fault (operand_kind fields x) (operand_kind fields y)) (agreement_fault (operand_kind fields x) (operand_kind fields z)))
    predicate_first (member x n ls) =
        atom_first x (map literal ls) _
        (ap (λ (o : Option QueryFault). option_or (option_or (operand_fault fields grouped c x) o) (first_fault (λ y. agreement_fault (operand_kind fields x) (operand_kind fields y)) (map literal ls))) (literals_sound fields grouped c ls)
        ∙ ap (λ (o : Option QueryFault). option_or o (first_fault (λ y. agreement_fault (operand_kind fields x) (operand_kind fields y)) (map literal ls))) (or_none (operand_fault fields grouped c x))
        ∙ ap (λ (o : Option QueryFault). option_or (operand_fault fields grouped c x) o) (literals_agree fields (operand_kind fields x) ls))
    predicate_first (null_test x n) = atom_first x [] _ (after_one (operand_fault fields grouped c x))
    predicate_first (column n) =
        atom_first (expression (name n)) (literal (constant.Truth true) ∷ []) _
        (after_name (expression_fault fields grouped c (name n)) (agreement_fault (column_kind fields n) (Some kind.Bool)) (kind_fault (kind.Bool ∷ []) (column_kind fields n)) (truth_first (column_kind fields n)))

    -- The first fault of the parts of an OR or an AND.
    parts_first : (ps : Predicates) → first (flat_map (atom_faults of_expression fields) (operands_of_parts ps)) ≡ parts_fault fields grouped c ps
    parts_first no_parts = refl
    parts_first (part p ps) =
        lists_first (atom_faults of_expression fields) (operands_of_atoms p) (operands_of_parts ps) (predicate_fault fields grouped c p) (parts_fault fields grouped c ps) (predicate_first p) (parts_first ps)

  -- The first fault of the predicate of a clause, where it is written.
  clause_first : (o : Option Predicate) → first (clause_faults of_expression fields o) ≡ clause_fault fields grouped c o
  clause_first None = refl
  clause_first (Some p) = predicate_first p

-- ---- expressions

-- The first fault of an expression over one record.
record_first : (fields : List Field) (grouped : List ℕ) (e : Expression) → first (record_faults fields e) ≡ expression_fault fields grouped clause.Where e
record_first fields grouped (name n) = column_first fields n
record_first fields grouped (grouping ns) = refl
record_first fields grouped (function (over_all a)) = refl
record_first fields grouped (function (over_filtered a p)) = refl

-- A set function that may stand, and one that may not.
function_cases : (misplaced : Bool) (xs ys : List QueryFault) (a b o : Option QueryFault) → first xs ≡ a → first ys ≡ b → option_or a b ≡ o → first (cond misplaced (FunctionNotAllowed ∷ []) (xs ++ ys)) ≡ cond (not misplaced) o (Some FunctionNotAllowed)
function_cases true xs ys a b o p q e = refl
function_cases false xs ys a b o p q e = then_first xs ys a b p q ∙ e

-- Where each set function may stand.
each_may : (a : Aggregate) → true ≡ not (is_average a && not true)
each_may a = elim (is_average a) as (λ (t : Bool). true ≡ not (t && not true)) [ true ↦ refl | false ↦ refl ]

-- Where each set function but AVG may stand.
others_may : (a : Aggregate) → not (is_average a) ≡ not (is_average a && not false)
others_may a = elim (is_average a) as (λ (t : Bool). not t ≡ not (t && not false)) [ true ↦ refl | false ↦ refl ]

-- The first fault of a set function, where the clause says of AVG what the test says.
function_first : (fields : List Field) (may_average : Bool) (c : Clause) → ((a : Aggregate) → may_stand c a ≡ not (is_average a && not may_average)) → (f : SetFunction) → first (function_faults may_average fields f) ≡ function_fault fields c f
function_first fields may_average c may (over_all a) =
    function_cases (is_average a && not may_average) (argument_faults fields a) [] (aggregate_fault fields a) None (aggregate_fault fields a) (argument_first fields a) refl (or_none (aggregate_fault fields a))
    ∙ ap (λ (t : Bool). cond t (aggregate_fault fields a) (Some FunctionNotAllowed)) (sym (may a))
function_first fields may_average c may (over_filtered a p) =
    let both = option_or (aggregate_fault fields a) (predicate_fault fields [] clause.Where p) in
    function_cases (is_average a && not may_average) (argument_faults fields a) (predicate_faults (record_faults fields) fields p) (aggregate_fault fields a) (predicate_fault fields [] clause.Where p) both (argument_first fields a) (predicate_first fields [] clause.Where (record_faults fields) (record_first fields []) p) refl
    ∙ ap (λ (t : Bool). cond t both (Some FunctionNotAllowed)) (sym (may a))

-- The first fault of an expression in SELECT.
select_first : (fields : List Field) (t : Query) (e : Expression) → first (group_faults true fields (grouping_names t) e) ≡ expression_fault fields (grouping_places fields t) clause.Select e
select_first fields t (name n) = grouped_first fields t n
select_first fields t (grouping ns) = each_first (grouped_faults fields (grouping_names t)) (grouped_fault fields (grouping_places fields t)) (grouped_first fields t) ns
select_first fields t (function f) = function_first fields true clause.Select each_may f

-- The first fault of an expression in HAVING.
having_first : (fields : List Field) (t : Query) (e : Expression) → first (group_faults false fields (grouping_names t) e) ≡ expression_fault fields (grouping_places fields t) clause.Having e
having_first fields t (name n) = grouped_first fields t n
having_first fields t (grouping ns) = each_first (grouped_faults fields (grouping_names t)) (grouped_fault fields (grouping_places fields t)) (grouped_first fields t) ns
having_first fields t (function f) = function_first fields false clause.Having others_may f

-- The first fault of an expression in ORDER BY.
order_first : (fields : List Field) (t : Query) (e : Expression) → first (group_faults false fields (grouping_names t) e) ≡ expression_fault fields (grouping_places fields t) clause.OrderBy e
order_first fields t (name n) = grouped_first fields t n
order_first fields t (grouping ns) = each_first (grouped_faults fields (grouping_names t)) (grouped_fault fields (grouping_places fields t)) (grouped_first fields t) ns
order_first fields t (function f) = function_first fields false clause.OrderBy others_may f

-- ---- the query

-- The first header that repeats an earlier one.
headers_first : (headers : List (List ℕ)) → first (header_faults headers) ≡ headers_fault headers
headers_first headers =
    each_first (λ (p : ℕ × List ℕ). unless (not (list_any (bytes_eq p.1) (take p.0 headers))) (RepeatedHeader p.1)) (λ (p : ℕ × List ℕ). header_fault (take p.0 headers) p.1)
    (λ p. unless_first (not (list_any (bytes_eq p.1) (take p.0 headers))) (RepeatedHeader p.1))
    (enumerate_from 0 headers)

-- A number is within a limit where the limit is not below it.
within_or_over : (most n : ℕ) → nat_le n most ≡ not (nat_lt most n)
within_or_over most n =
    elim (nat_lt most n) as (λ (t : Bool). nat_lt most n ≡ t → nat_le n most ≡ not t) [
      | true ↦ λ e. grind (arith, nat_tests)
      | false ↦ λ e. grind (arith, nat_tests)
    ] refl

-- A number that is to be within a limit.
limit_first : (most n : ℕ) → first (unless (nat_le n most) OverLimit) ≡ limit_fault most n
limit_first most n = unless_first (nat_le n most) OverLimit ∙ ap (λ (t : Bool). fault_unless t OverLimit) (within_or_over most n)

-- Eight tests, however they are taken together.
in_order : (a b c d e g h i : Option QueryFault) → option_or (option_or (option_or (option_or (option_or (option_or (option_or a b) c) d) e) g) h) i ≡ first_fault (λ fault. fault) (a ∷ b ∷ c ∷ d ∷ e ∷ g ∷ h ∷ i ∷ [])
in_order (Some f) b c d e g h i = refl
in_order None (Some f) c d e g h i = refl
in_order None None (Some f) d e g h i = refl
in_order None None None (Some f) e g h i = refl
in_order None None None None (Some f) g h i = refl
in_order None None None None None (Some f) h i = refl
in_order None None None None None None (Some f) i = refl
in_order None None None None None None None (Some f) = refl
in_order None None None None None None None None = refl

-- The first of eight lists, one after the other.
eight_first : (xa xb xc xd xe xg xh xi : List QueryFault) (a b c d e g h i : Option QueryFault) → first xa ≡ a → first xb ≡ b → first xc ≡ c → first xd ≡ d → first xe ≡ e → first xg ≡ g → first xh ≡ h → first xi ≡ i → first (xa ++ xb ++ xc ++ xd ++ xe ++ xg ++ xh ++ xi) ≡ first_fault (λ fault. fault) (a ∷ b ∷ c ∷ d ∷ e ∷ g ∷ h ∷ i ∷ [])
eight_first xa xb xc xd xe xg xh xi a b c d e g h i pa pb pc pd pe pg ph pi =
    then_first (xa ++ xb ++ xc ++ xd ++ xe ++ xg ++ xh) xi _ i
    (then_first (xa ++ xb ++ xc ++ xd ++ xe ++ xg) xh _ h
    (then_first (xa ++ xb ++ xc ++ xd ++ xe) xg _ g
    (then_first (xa ++ xb ++ xc ++ xd) xe _ e
    (then_first (xa ++ xb ++ xc) xd _ d
    (then_first (xa ++ xb) xc _ c
    (then_first xa xb a b pa pb) pc) pd) pe) pg) ph) pi
    ∙ in_order a b c d e g h i

-- The first of the faults of a query.
pub first_of_faults : (fields : List Field) (t : Query) → slice_get (query_faults fields t) 0 ≡ query_fault fields t
unfolding query_faults tests_of
first_of_faults fields t =
    let groups = grouping_names t in
    let grouped = grouping_places fields t in
    eight_first
    (clause_faults (record_faults fields) fields t.where_condition)
    (flat_map (column_faults fields) groups)
    (unless (nat_le (length (expansion t.groups)) 256) OverLimit)
    (flat_map (λ (i : SelectItem). group_faults true fields groups i.expression) t.items)
    (header_faults (map header_text t.items))
    (clause_faults (group_faults false fields groups) fields t.having_condition)
    (flat_map (λ (k : SortKey). group_faults false fields groups (key_expression t.items k.expression)) t.keys)
    (unless (nat_le (length (functions_of fields t)) 64) OverLimit)
    (clause_fault fields grouped clause.Where t.where_condition)
    (first_fault (column_fault fields) groups)
    (limit_fault 256 (length (expansion t.groups)))
    (first_fault (λ (i : SelectItem). expression_fault fields grouped clause.Select i.expression) t.items)
    (headers_fault (map header_text t.items))
    (clause_fault fields grouped clause.Having t.having_condition)
    (first_fault (λ (k : SortKey). expression_fault fields grouped clause.OrderBy (key_expression t.items k.expression)) t.keys)
    (limit_fault 64 (length (functions_of fields t)))
    (clause_first fields grouped clause.Where (record_faults fields) (record_first fields grouped) t.where_condition)
    (each_first (column_faults fields) (column_fault fields) (column_first fields) groups)
    (limit_first 256 (length (expansion t.groups)))
    (each_first (λ (i : SelectItem). group_faults true fields groups i.expression) (λ (i : SelectItem). expression_fault fields grouped clause.Select i.expression) (λ i. select_first fields t i.expression) t.items)
    (headers_first (map header_text t.items))
    (clause_first fields grouped clause.Having (group_faults false fields groups) (having_first fields t) t.having_condition)
    (each_first (λ (k : SortKey). group_faults false fields groups (key_expression t.items k.expression)) (λ (k : SortKey). expression_fault fields grouped clause.OrderBy (key_expression t.items k.expression)) (λ k. order_first fields t (key_expression t.items k.expression)) t.keys)
    (limit_first 64 (length (functions_of fields t)))

-- ---- laws

-- A list without a first is empty.
nothing_first : {A : Type 0} (xs : List A) → first xs ≡ None → xs ≡ []
nothing_first [] h = refl
nothing_first (x ∷ xs) h = absurd cc

-- A query has no fault exactly where it is typed.
pub faultless_is_typed : (fields : List Field) (t : Query) → query_faults fields t ≡ [] ↔ IsTyped fields t
faultless_is_typed fields t = (
  λ h. typed_from_none fields t (sym (first_of_faults fields t) ∙ ap first h),
  λ typed. nothing_first (query_faults fields t) (first_of_faults fields t ∙ none_from_typed fields t typed),
)

-- The fault that is told stands in the query.
pub told_stands : (fields : List Field) (t : Query) (f : QueryFault) → slice_get (query_faults fields t) 0 ≡ Some f → IsViolation fields t f
told_stands fields t f h = first_stands fields t f (sym (first_of_faults fields t) ∙ h)
