-- A table with one group more, behind all that were there, is of the types of columns and set
-- functions where the group is.
use Rattle.std.proofs.Common.{◌≡◌, ℕ, true, false, cond, List, [], ◌∷◌, Option, Some, None, IfSome, refl, sym, subst}
use Rattle.std.specs.FinMap as fin
use Rattle.std.specs.List.{AllZip}
use Rattle.semantics.specs.Columns.{Field}
use Rattle.semantics.specs.Groups.{Key, same_key}
use Rattle.semantics.specs.declared.function.ColumnFunction.{ColumnFunction}
use Rattle.semantics.specs.declared.function.ColumnFunction.TheVariants as function
use Rattle.query_resolve.specs.declared.function.FilteredFunction.{FilteredFunction}
use Rattle.semantics.specs.GroupStates.{EntryForm, FunctionState}
use Rattle.semantics.specs.GroupStates as state
use Rattle.group_tables.specs.Entries.{AreStatesFor, HasFormBy, IsEntryFor, IsExtremeOf, IsTypedEntry}
use Rattle.group_tables.specs.Inside.Entries.{kept_group, kept_state, kept_states}
use Rattle.group_tables.specs.Group.{GroupState}
use Rattle.group_tables.specs.Table.{Contents}
use Rattle.group_tables.specs.Typed.{AreStatesOf, IsKeyOf, IsStateBy, IsTypedTable}
use Rattle.group_tables.proofs.Order.{same_key-Decides}

-- what is kept of a state of the function's form is of its type
kept-by : (t : Option ℕ) (f : ColumnFunction) (fields : List Field) (members : ℕ) (s : FunctionState) → HasFormBy t f members s → IsExtremeOf fields f s → IsStateBy fields t f (kept_state f s)
kept-by None function.CountRows fields members state.rows h e = tt
kept-by None function.CountRows fields members (state.counted n) h e = elim h [ ]
kept-by None function.CountRows fields members (state.summed s n) h e = elim h [ ]
kept-by None function.CountRows fields members (state.extreme d) h e = elim h [ ]
kept-by None function.CountRows fields members (state.collected ds) h e = elim h [ ]
kept-by None (function.Count place) fields members state.rows h e = elim h [ ]
kept-by None (function.Count place) fields members (state.counted n) h e = tt
kept-by None (function.Count place) fields members (state.summed s n) h e = elim h [ ]
kept-by None (function.Count place) fields members (state.extreme d) h e = elim h [ ]
kept-by None (function.Count place) fields members (state.collected ds) h e = elim h [ ]
kept-by None (function.CountDistinct place) fields members state.rows h e = elim h [ ]
kept-by None (function.CountDistinct place) fields members (state.counted n) h e = elim h [ ]
kept-by None (function.CountDistinct place) fields members (state.summed s n) h e = elim h [ ]
kept-by None (function.CountDistinct place) fields members (state.extreme d) h e = elim h [ ]
kept-by None (function.CountDistinct place) fields members (state.collected ds) h e = tt
kept-by None (function.Sum place) fields members state.rows h e = elim h [ ]
kept-by None (function.Sum place) fields members (state.counted n) h e = elim h [ ]
kept-by None (function.Sum place) fields members (state.summed s n) h e = tt
kept-by None (function.Sum place) fields members (state.extreme d) h e = elim h [ ]
kept-by None (function.Sum place) fields members (state.collected ds) h e = elim h [ ]
kept-by None (function.Min place) fields members state.rows h e = elim h [ ]
kept-by None (function.Min place) fields members (state.counted n) h e = elim h [ ]
kept-by None (function.Min place) fields members (state.summed s n) h e = elim h [ ]
kept-by None (function.Min place) fields members (state.extreme d) h e = e
kept-by None (function.Min place) fields members (state.collected ds) h e = elim h [ ]
kept-by None (function.Max place) fields members state.rows h e = elim h [ ]
kept-by None (function.Max place) fields members (state.counted n) h e = elim h [ ]
kept-by None (function.Max place) fields members (state.summed s n) h e = elim h [ ]
kept-by None (function.Max place) fields members (state.extreme d) h e = e
kept-by None (function.Max place) fields members (state.collected ds) h e = elim h [ ]
kept-by None (function.Avg place) fields members state.rows h e = elim h [ ]
kept-by None (function.Avg place) fields members (state.counted n) h e = elim h [ ]
kept-by None (function.Avg place) fields members (state.summed s n) h e = tt
kept-by None (function.Avg place) fields members (state.extreme d) h e = elim h [ ]
kept-by None (function.Avg place) fields members (state.collected ds) h e = elim h [ ]
kept-by (Some i) function.CountRows fields members state.rows h e = elim h [ ]
kept-by (Some i) function.CountRows fields members (state.counted n) h e = tt
kept-by (Some i) function.CountRows fields members (state.summed s n) h e = elim h [ ]
kept-by (Some i) function.CountRows fields members (state.extreme d) h e = elim h [ ]
kept-by (Some i) function.CountRows fields members (state.collected ds) h e = elim h [ ]
kept-by (Some i) (function.Count place) fields members state.rows h e = elim h [ ]
kept-by (Some i) (function.Count place) fields members (state.counted n) h e = tt
kept-by (Some i) (function.Count place) fields members (state.summed s n) h e = elim h [ ]
kept-by (Some i) (function.Count place) fields members (state.extreme d) h e = elim h [ ]
kept-by (Some i) (function.Count place) fields members (state.collected ds) h e = elim h [ ]
kept-by (Some i) (function.CountDistinct place) fields members state.rows h e = elim h [ ]
kept-by (Some i) (function.CountDistinct place) fields members (state.counted n) h e = elim h [ ]
kept-by (Some i) (function.CountDistinct place) fields members (state.summed s n) h e = elim h [ ]
kept-by (Some i) (function.CountDistinct place) fields members (state.extreme d) h e = elim h [ ]
kept-by (Some i) (function.CountDistinct place) fields members (state.collected ds) h e = tt
kept-by (Some i) (function.Sum place) fields members state.rows h e = elim h [ ]
kept-by (Some i) (function.Sum place) fields members (state.counted n) h e = elim h [ ]
kept-by (Some i) (function.Sum place) fields members (state.summed s n) h e = tt
kept-by (Some i) (function.Sum place) fields members (state.extreme d) h e = elim h [ ]
kept-by (Some i) (function.Sum place) fields members (state.collected ds) h e = elim h [ ]
kept-by (Some i) (function.Min place) fields members state.rows h e = elim h [ ]
kept-by (Some i) (function.Min place) fields members (state.counted n) h e = elim h [ ]
kept-by (Some i) (function.Min place) fields members (state.summed s n) h e = elim h [ ]
kept-by (Some i) (function.Min place) fields members (state.extreme d) h e = e
kept-by (Some i) (function.Min place) fields members (state.collected ds) h e = elim h [ ]
kept-by (Some i) (function.Max place) fields members state.rows h e = elim h [ ]
kept-by (Some i) (function.Max place) fields members (state.counted n) h e = elim h [ ]
kept-by (Some i) (function.Max place) fields members (state.summed s n) h e = elim h [ ]
kept-by (Some i) (function.Max place) fields members (state.extreme d) h e = e
kept-by (Some i) (function.Max place) fields members (state.collected ds) h e = elim h [ ]
kept-by (Some i) (function.Avg place) fields members state.rows h e = elim h [ ]
kept-by (Some i) (function.Avg place) fields members (state.counted n) h e = elim h [ ]
kept-by (Some i) (function.Avg place) fields members (state.summed s n) h e = tt
kept-by (Some i) (function.Avg place) fields members (state.extreme d) h e = elim h [ ]
kept-by (Some i) (function.Avg place) fields members (state.collected ds) h e = elim h [ ]

kept-all : (fields : List Field) (functions : List FilteredFunction) (members : ℕ) (states : List FunctionState) → AreStatesFor functions members states
    → AllZip (λ f s. IsExtremeOf fields f.function s) functions states → AreStatesOf fields functions (kept_states functions states)
kept-all fields [] members [] h e = tt
kept-all fields [] members (s ∷ ss) h e = elim h [ ]
kept-all fields (f ∷ fs) members [] h e = elim h [ ]
kept-all fields (f ∷ fs) members (s ∷ ss) h e = (kept-by f.filter f.function fields members s h.0 e.0, kept-all fields fs members ss h.1 e.1)

-- what holds of the group at its key, and of what was there at each other key, holds of the table
at-key : (P : Key → GroupState → Type 0) (key k : Key) (g : GroupState) (o : Option GroupState) → P key g → IfSome o (P k) → IfSome (cond (same_key k key) (Some g) o) (P k)
at-key P key k g o here there =
    elim (same_key k key) as (λ b. same_key k key ≡ b → IfSome (cond b (Some g) o) (P k)) [
      | true ↦ λ e. subst (λ (q : Key). P q g) (sym ((same_key-Decides k key).0 e)) here
      | false ↦ λ _. there
    ] refl

pub typed-more : (fields : List Field) (set : List ℕ) (functions : List FilteredFunction) (entry : EntryForm) (old new : Contents) → IsEntryFor functions entry
    → ((k : Key) → fin.get new k ≡ cond (same_key k entry.key) (Some (kept_group functions entry)) (fin.get old k))
    → IsTypedTable fields set functions old → IsTypedEntry fields set functions entry → IsTypedTable fields set functions new
typed-more fields set functions entry old new form got typed one =
    let g = kept_group functions entry in
    record {
      keys = λ k. subst (λ (o : Option GroupState). IfSome o (λ _. IsKeyOf fields set k)) (sym (got k))
          (at-key (λ q _. IsKeyOf fields set q) entry.key k g (fin.get old k) one.key (typed.keys k));
      parts = λ k. subst (λ (o : Option GroupState). IfSome o (λ h. AreStatesOf fields functions h.parts)) (sym (got k))
          (at-key (λ _ h. AreStatesOf fields functions h.parts) entry.key k g (fin.get old k) (kept-all fields functions entry.members entry.states form one.states) (typed.parts k));
    }
