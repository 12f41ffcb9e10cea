-- A schema text, part by part.
use Rattle.std.proofs.Common.{◌≡◌, ◌≢◌, ◌==◌, ℕ, suc, ◌+◌, ◌<◌, ◌≤◌, nat_lt, Bool, true, false, cond, not, ◌||◌, List, [], ◌∷◌, ◌++◌, length, take, drop, map, get_or, Option, Some, None, option_map, Result, Ok, Err, All, AllPairs, IsTrue, rules, option_to_list, refl, sym, ap, ◌∙◌, subst, append_assoc, arith, string_bytes}
use Rattle.std.proofs.lemmas.Bool.Decides.{nat_tests}
use Rattle.std.proofs.lemmas.List.{append-nil, at_drop_more, at_drop_all, map-append, length_push, length-map, get_or-map}
use Rattle.std.proofs.lemmas.List.Elements.{All-nil, All-push}
use Rattle.std.proofs.lemmas.List.Folds.{list_any_at}
use Rattle.std.proofs.lemmas.List.Quantifiers.{all_pairs_push}
use Rattle.std.proofs.lemmas.List.Splits.{length-slice_split}
use Rattle.std.proofs.lemmas.Option.{same_Some}
use Rattle.std.proofs.lemmas.Slice.Eq.{bytes_eq-Decides}
use Rattle.std.proofs.Math.Seq.{take-append_seam}
use Rattle.std.specs.List.{cons_option, enumerate_from, filter_map, list_any}
use Rattle.std.specs.Option.{is_none}
use Rattle.std.specs.Str.{bytes_eq}
use Rattle.semantics.specs.declared.kind.Kind.{Kind}
use Rattle.values.specs.declared.schema.Column.{Column}
use Rattle.semantics.specs.declared.schema_fault.SchemaFault.{SchemaFault}
use Rattle.semantics.specs.Columns.{Field, names_of, name_of, kind_of, column_of, fault_of, parts, unless_faulty, schema_of}
use Rattle.semantics.specs.Words.{is_word}
use Rattle.values.specs.Schema.{fields_of, IsSchema}

-- a test of the names of columns
pub names_any : (test : List ℕ → Bool) (columns : List Column) → list_any (λ column. test (string_bytes column.name)) columns ≡ list_any test (names_of (fields_of columns))
names_any test [] = refl
names_any test (column ∷ more) = ap (λ b. test (string_bytes column.name) || b) (names_any test more)

-- ---- a part without a fault

-- where a test that would be a fault is passed
passed : {X : Type 0} (b : Bool) (x : X) (r : Option X) → cond b (Some x) r ≡ None → (b ≡ false) × (r ≡ None)
passed true x r h = let wrong : ⊥ = cc in absurd wrong
passed false x r h = (refl, h)

some_from : {X : Type 0} (o : Option X) → is_none o ≡ false → (x : X) × (o ≡ Some x)
some_from None h = let wrong : ⊥ = cc in absurd wrong
some_from (Some x) h = (x, refl)

-- the column of a part, of a type
abbrev pub named_of : List ℕ → Kind → Field
named_of part kind = record { name = name_of part; kind = kind }

-- what a part without a fault is
pub record IsFaultless (names : List (List ℕ)) (part : List ℕ) : Type 0 where
  few : nat_lt 32 (length names + 1) ≡ false
  named : not (is_word (name_of part)) ≡ false
  column : (kind : Kind) × (column_of part ≡ Some (named_of part kind))
  new : list_any (bytes_eq (name_of part)) names ≡ false

pub faultless : (names : List (List ℕ)) (part : List ℕ) → fault_of names part ≡ None → IsFaultless names part
faultless names part h =
    let few = passed (nat_lt 32 (length names + 1)) _ _ h in
    let named = passed (not (is_word (name_of part))) _ _ few.1 in
    let typed = passed (is_none (kind_of part)) _ _ named.1 in
    let new = passed (list_any (bytes_eq (name_of part)) names) _ _ typed.1 in
    let kind = some_from (kind_of part) typed.0 in
    record { few = few.0; named = named.0; column = (kind.0, ap (option_map (named_of part)) kind.1); new = new.0 }

-- ---- part by part is all at once

abbrev pub err_or : Option SchemaFault → Result (List Field) SchemaFault → Result (List Field) SchemaFault
err_or None r = r
err_or (Some fault) r = Err fault

-- the columns of the parts that are left behind columns that stand, or the first fault of these
-- parts
abbrev pub columns_behind : List Field → List (List ℕ) → Result (List Field) SchemaFault
columns_behind before [] = Ok before
columns_behind before (part ∷ rest) = err_or (fault_of (names_of before) part) (columns_behind (before ++ option_to_list (column_of part)) rest)

-- the faults of the parts that are left, behind parts that are done
abbrev faults_behind : List (List ℕ) → ℕ → List (List ℕ) → List SchemaFault
faults_behind all n rest = filter_map (λ p. fault_of (map name_of (take p.0 all)) p.1) (enumerate_from n rest)

all_at_once : (done rest : List (List ℕ)) (before : List Field) → names_of before ≡ map name_of done → columns_behind before rest ≡ unless_faulty (faults_behind (done ++ rest) (length done) rest) (before ++ filter_map column_of rest)
all_at_once done [] before h = ap Ok (sym (append-nil before))
all_at_once done (part ∷ rest) before h =
    let all = done ++ part ∷ rest in
    let later = faults_behind all (length done + 1) rest in
    let fields = before ++ cons_option (column_of part) (filter_map column_of rest) in
    let here : fault_of (names_of before) part ≡ fault_of (map name_of (take (length done) all)) part =
    ap (λ names. fault_of names part) (h ∙ sym (ap (map name_of) (take-append_seam done (part ∷ rest)))) in
    (elim (fault_of (names_of before) part) as (λ o. fault_of (names_of before) part ≡ o → err_or o (columns_behind (before ++ option_to_list (column_of part)) rest) ≡ unless_faulty (cons_option o later) fields) [
      | Some fault ↦ λ e. refl
      | None ↦ λ e.
          let column = (faultless (names_of before) part e).column in
          let field = named_of part column.0 in
          rw column.1 (
          all_at_once (done ++ part ∷ []) rest (before ++ field ∷ []) (map-append (λ (f : Field). f.name) before (field ∷ []) ∙ ap (λ names. names ++ name_of part ∷ []) h ∙ sym (map-append name_of done (part ∷ [])))
          ∙ ap (λ xs. unless_faulty (faults_behind xs (length (done ++ part ∷ [])) rest) ((before ++ field ∷ []) ++ filter_map column_of rest)) (append_assoc done (part ∷ []) rest)
          ∙ ap (λ n. unless_faulty (faults_behind all n rest) ((before ++ field ∷ []) ++ filter_map column_of rest)) (length_push done part)
          ∙ ap (unless_faulty later) (append_assoc before (field ∷ []) (filter_map column_of rest))
          )
    ] refl)
    ∙ ap (λ o. unless_faulty (cons_option o later) fields) here

pub whole_text : (text : List ℕ) → 0 < length text → columns_behind [] (parts text) ≡ schema_of text
whole_text [] h = absurd (omega arith)
whole_text (c ∷ cs) h = all_at_once [] (parts (c ∷ cs)) [] refl

-- ---- one turn

-- a part stands at this place of the text
abbrev pub StandsAt : List ℕ → ℕ → List ℕ → Type 0
StandsAt text n part = (n < length (parts text)) × (part ≡ get_or (parts text) n part)

turn : (text : List ℕ) (before : List Field) (n : ℕ) (part : List ℕ) → StandsAt text n part → columns_behind before (drop n (parts text)) ≡ err_or (fault_of (names_of before) part) (columns_behind (before ++ option_to_list (column_of part)) (drop (n + 1) (parts text)))
turn text before n part at = at_drop_more (columns_behind before) (parts text) n part at.0 ∙ ap (λ p. columns_behind before (p ∷ drop (n + 1) (parts text))) (sym at.1)

-- the first fault is met
pub faulty_turn : (text : List ℕ) (before : List Field) (n : ℕ) (part : List ℕ) (fault : SchemaFault) → 0 < length text → StandsAt text n part → columns_behind before (drop n (parts text)) ≡ columns_behind [] (parts text) → fault_of (names_of before) part ≡ Some fault → schema_of text ≡ Err fault
faulty_turn text before n part fault some at so_far e = sym (whole_text text some) ∙ sym so_far ∙ turn text before n part at ∙ ap (λ o. err_or o (columns_behind (before ++ option_to_list (column_of part)) (drop (n + 1) (parts text)))) e

-- one more column stands
pub good_turn : (text : List ℕ) (before : List Field) (n : ℕ) (part : List ℕ) (field : Field) → StandsAt text n part → columns_behind before (drop n (parts text)) ≡ columns_behind [] (parts text) → fault_of (names_of before) part ≡ None → column_of part ≡ Some field → columns_behind (before ++ field ∷ []) (drop (n + 1) (parts text)) ≡ columns_behind [] (parts text)
good_turn text before n part field at so_far none column =
    ap (λ o. columns_behind (before ++ option_to_list o) (drop (n + 1) (parts text))) (sym column)
    ∙ ap (λ o. err_or o (columns_behind (before ++ option_to_list (column_of part)) (drop (n + 1) (parts text)))) (sym none)
    ∙ sym (turn text before n part at) ∙ so_far

-- no part is left
pub last_turn : (text : List ℕ) (before : List Field) (n : ℕ) → 0 < length text → length (parts text) ≤ n → columns_behind before (drop n (parts text)) ≡ columns_behind [] (parts text) → schema_of text ≡ Ok before
last_turn text before n some end so_far = sym (whole_text text some) ∙ sym so_far ∙ at_drop_all (columns_behind before) (parts text) n end

-- ---- what comes is a schema

-- some columns of a schema, from the first on
record IsFront (fields : List Field) : Type 0 where
  few : length fields ≤ 32
  names : All (λ f. IsTrue (is_word f.name)) fields
  names_differ : AllPairs (λ f g. f.name ≢ g.name) fields

-- a name that none of these has differs from each
differs : (name : List ℕ) (fields : List Field) → list_any (bytes_eq name) (names_of fields) ≡ false → (k : ℕ) (d : Field) → k < length fields → (get_or fields k d).name ≢ name
differs name fields h k d l e =
    let same : get_or (names_of fields) k d.name ≡ name = get_or-map (λ (f : Field). f.name) fields k d d.name l ∙ e in
    let found = list_any_at (bytes_eq name) (names_of fields) k d.name (let n = length-map fields (λ (f : Field). f.name) in omega (arith, l, n)) ((bytes_eq-Decides name (get_or (names_of fields) k d.name)).1 (sym same)) in
    let wrong : true ≡ false = sym found ∙ h in
    let clash : ⊥ = cc in clash

true_from : (b : Bool) → not b ≡ false → IsTrue b
true_from true h = search rules
true_from false h = let clash : ⊥ = cc in absurd clash

grown : (before : List Field) (part : List ℕ) (field : Field) → IsFront before → fault_of (names_of before) part ≡ None → column_of part ≡ Some field → IsFront (before ++ field ∷ [])
grown before part field front none column =
    let part_is = faultless (names_of before) part none in
    let same = same_Some (named_of part part_is.column.0) field (sym part_is.column.1 ∙ column) in
    let name : name_of part ≡ field.name = ap (λ (f : Field). f.name) same in
    let n = length-map before (λ (f : Field). f.name) in
    let long = length_push before field in
    record {
      few = let few = part_is.few in grind (arith, nat_tests);
      names = All-push (λ (f : Field). IsTrue (is_word f.name)) before field front.names (subst (λ xs. IsTrue (is_word xs)) name (true_from (is_word (name_of part)) part_is.named));
      names_differ = all_pairs_push (λ (f : Field) (g : Field). f.name ≢ g.name) before field front.names_differ (λ k d l. subst (λ xs. (get_or before k d).name ≢ xs) name (differs (name_of part) before part_is.new k d l));
    }

front_of_all : (rest : List (List ℕ)) (before fields : List Field) → IsFront before → columns_behind before rest ≡ Ok fields → IsFront fields × (length fields ≡ length before + length rest)
front_of_all [] before fields front h =
    let same : before ≡ fields = cc in
    (subst IsFront same front, ap length (sym same) ∙ (let z : length before ≡ length before + 0 = omega arith in z))
front_of_all (part ∷ rest) before fields front h =
    (elim (fault_of (names_of before) part) as (λ o. fault_of (names_of before) part ≡ o → err_or o (columns_behind (before ++ option_to_list (column_of part)) rest) ≡ Ok fields → IsFront fields × (length fields ≡ length before + suc (length rest))) [
      | Some fault ↦ λ e ok. let clash : ⊥ = cc in absurd clash
      | None ↦ λ e ok.
          let column = (faultless (names_of before) part e).column in
          let field = named_of part column.0 in
          let behind = subst (λ o. columns_behind (before ++ option_to_list o) rest ≡ Ok fields) column.1 ok in
          let all = front_of_all rest (before ++ field ∷ []) fields (grown before part field front e column.1) behind in
          let n = length_push before field in
          (all.0, omega (arith, all.1, n))
    ] refl h)

-- columns of a text make a schema
pub IsSchema-from_text : (text : List ℕ) (fields : List Field) → schema_of text ≡ Ok fields → IsSchema fields
IsSchema-from_text [] fields h = let clash : ⊥ = cc in absurd clash
IsSchema-from_text (c ∷ cs) fields h =
    let text = c ∷ cs in
    let start : IsFront [] = record { few = omega arith; names = All-nil (λ (f : Field). IsTrue (is_word f.name)); names_differ = λ i j d l m. absurd (omega (arith, m)) } in
    let all = front_of_all (parts text) [] fields start (whole_text text (omega arith) ∙ h) in
    let n = length-slice_split (λ x. x == 44) text in
    record { some = omega (arith, all.1, n); few = all.0.few; names = all.0.names; names_differ = all.0.names_differ }
