-- The groups that a table gives have the types that it has.
use Rattle.std.proofs.Common.{◌≡◌, ◌≢◌, ℕ, List, [], ◌∷◌, map, Some, refl, sym, ap, subst, ◌∙◌, arith}
use Rattle.std.proofs.lemmas.List.{get_or-map, length-map}
use Rattle.std.proofs.lemmas.List.Elements.{All-from_recursion}
use Rattle.std.proofs.lemmas.List.Sorted.{All-permutation, IsPermutation-map}
use Rattle.std.proofs.lemmas.Map.Keys.{IsDistinct-IsPermutation}
use Rattle.std.proofs.lemmas.Map.Made.{AllPairs-from_IsDistinct}
use Rattle.std.specs.Cmp.{eq_by_cmp_equiv}
use Rattle.std.specs.List.{AllByRecursion, AllPairs, AllZip, IsDistinct}
use Rattle.std.specs.List.Sorted.{IsPermutation}
use Rattle.std.specs.Map.{keys_of}
use Rattle.std.specs.FinMap as fin
use Rattle.query_resolve.specs.declared.function.FilteredFunction.{FilteredFunction}
use Rattle.semantics.specs.Columns.{Field}
use Rattle.semantics.specs.ResultRows.{GroupSummary}
use Rattle.semantics.specs.Groups.{Key, same_key}
use Rattle.group_tables.specs.Fitting.{HasType}
use Rattle.group_tables.specs.Keys.{key_in}
use Rattle.group_tables.specs.Inside.Summaries.{entry_summaries}
use Rattle.group_tables.specs.Table.{Contents, contents_of}
use Rattle.group_tables.specs.Typed.{AreOfTypes, IsKeyOf, IsTypedTable}
use Rattle.group_tables.proofs.Distinct.{distinct-shown}
use Rattle.group_tables.proofs.Entries.{Entries, key_eq}
use Rattle.group_tables.proofs.Order.{key_total, same_key-Decides}
use Rattle.group_tables.proofs.Rolling.{firsts, get-each}
use Rattle.group_tables.proofs.Typed.{key-typed, parts-typed, states-type}

abbrev key_of : GroupSummary → Key
key_of g = g.key

abbrev HasKeyOf : List Field → List ℕ → GroupSummary → Type 0
HasKeyOf fields set g = IsKeyOf fields set g.key

abbrev HasCellsOf : List Field → List FilteredFunction → GroupSummary → Type 0
HasCellsOf fields fs g = AllZip (λ f cell. HasType fields f.function cell) fs g.cells

-- ---- what is shown of the entries

entry-keys : (fields : List Field) (set : List ℕ) (fs : List FilteredFunction) (t : Contents) (es : Entries)
    → IsTypedTable fields set fs t
    → AllByRecursion (λ e. fin.get t (key_in e.0) ≡ Some e.1) es → AllByRecursion (HasKeyOf fields set)
    (entry_summaries es)
entry-keys fields set fs t [] typed h = tt
entry-keys fields set fs t (e ∷ es) typed h =
    (key-typed fields set fs t (key_in e.0) e.1 h.0 typed, entry-keys fields set fs t es typed h.1)

entry-cells : (fields : List Field) (set : List ℕ) (fs : List FilteredFunction) (t : Contents) (es : Entries)
    → IsTypedTable fields set fs t
    → AllByRecursion (λ e. fin.get t (key_in e.0) ≡ Some e.1) es → AllByRecursion (HasCellsOf fields fs)
    (entry_summaries es)
entry-cells fields set fs t [] typed h = tt
entry-cells fields set fs t (e ∷ es) typed h = (
  states-type fields fs e.1.lines e.1.parts (parts-typed fields set fs t (key_in e.0) e.1 h.0 typed),
  entry-cells fields set fs t es typed h.1,
)

-- ---- keys that differ

shown-keys : (es : Entries) → firsts es ≡ map key_of (entry_summaries es)
shown-keys [] = refl
shown-keys (e ∷ es) = ap (λ ks. key_in e.0 ∷ ks) (shown-keys es)

keys-apart : (groups : List GroupSummary) → IsDistinct same_key (map key_of groups)
    → AllPairs (λ x y. x.key ≢ y.key) groups
keys-apart groups distinct = λ i j d below within same.
    let long = length-map groups key_of in
    AllPairs-from_IsDistinct same_key-Decides (map key_of groups) distinct i j (key_of d) below (omega (arith, within, long))
    (get_or-map key_of groups i d (key_of d) (omega (arith, below, within)) ∙ same
    ∙ sym (get_or-map key_of groups j d (key_of d) within))

-- ---- the groups in any order

-- groups that are the entries of a typed table, in whatever order, are of its types
pub groups-typed : (fields : List Field) (set : List ℕ) (fs : List FilteredFunction) (t : Contents) (es : Entries)
    (groups : List GroupSummary)
    → contents_of es ≡ t → IsDistinct key_eq (keys_of es) → IsPermutation (entry_summaries es) groups
    → IsTypedTable fields set fs t
    → AreOfTypes fields set fs groups
groups-typed fields set fs t es groups view distinct moved typed =
    let shown = entry_summaries es in
    let each = get-each es t view distinct in
    let apart : IsDistinct same_key (map key_of shown) = subst (IsDistinct same_key) (shown-keys es) (distinct-shown es distinct) in
    record {
      keys = All-permutation (HasKeyOf fields set) shown groups moved
          (All-from_recursion (HasKeyOf fields set) shown (entry-keys fields set fs t es typed each));
      cells = All-permutation (HasCellsOf fields fs) shown groups moved
          (All-from_recursion (HasCellsOf fields fs) shown (entry-cells fields set fs t es typed each));
      distinct = keys-apart groups (IsDistinct-IsPermutation same_key (eq_by_cmp_equiv key_total).symm
          (map key_of shown) (map key_of groups) (IsPermutation-map key_of shown groups moved) apart);
    }
