-- Groups of the shape of a query: of the forms and the types that its plan asks.
use Rattle.std.proofs.Common.{◌≡◌, ◌<◌, ◌-◌, ℕ, zero, suc, ℤ, List, [], ◌∷◌, ◌++◌, append-nil, length, map, Option, Some, None, refl, sym, subst, ◌∙◌, arith}
use Rattle.std.proofs.lemmas.Int.{ints}
use Rattle.std.proofs.lemmas.List.Elements.{All-nil, All-push, All-weaker}
use Rattle.std.specs.List.{AllZip}
use Rattle.std.specs.declared.cmp.Ordering.TheVariants.{Less}
use Rattle.std.specs.Prelude.{option_map, unwrap_or}
use Rattle.values.specs.GroupStates.{entry_of}
use Rattle.semantics.specs.GroupStates.{EntryForm, FunctionState}
use Rattle.values.specs.declared.group_entry.GroupEntry.{GroupEntry}
use Rattle.semantics.specs.GroupStates as state
use Rattle.part_lines.specs.Known as known
use Rattle.part_lines.specs.declared.shape.StateKind.TheVariants as kind
use Rattle.query_plan.specs.Planned.{PlannedQuery}
use Rattle.query_resolve.specs.Functions.{indexed_functions}
use Rattle.query_resolve.specs.declared.function.FilteredFunction.{FilteredFunction}
use Rattle.semantics.specs.Columns.{Field}
use Rattle.semantics.specs.Groups.{Key, key_order}
use Rattle.semantics.specs.Names.{kind_at}
use Rattle.semantics.specs.Records.{Holds}
use Rattle.semantics.specs.Sets.{grouping_places}
use Rattle.semantics.specs.Syntax.{Query}
use Rattle.semantics.specs.Values.{Datum}
use Rattle.semantics.specs.declared.function.ColumnFunction.{ColumnFunction}
use Rattle.semantics.specs.declared.function.ColumnFunction.TheVariants as function
use Rattle.semantics.specs.declared.kind.Kind.{Kind}
use Rattle.tables.specs.Contents.{groups_in}
use Rattle.tables.specs.States.{PartialState}
use Rattle.tables.proofs.Columns.{functions-columns, grouping-columns}
use Rattle.group_tables.proofs.Order.{key_total}
use Rattle.group_tables.specs.Fitting.{IsHeld}
use Rattle.group_tables.specs.Accumulator.{IsSumOf}
use Rattle.group_tables.specs.Entries.{AreStatesFor, HasFormBy, IsBehind, IsCountState, IsDistinctState, IsEntryFor, IsExtremeOf, IsExtremeState, IsRowsState, IsSumState, IsTypedEntry}
use Rattle.group_tables.specs.Typed.{AreColumns, HasColumn, HaveColumns, IsKeyOf}
use Rattle.parts.specs.Inside.Gathering.{CanHold, IsLastOf, key_of, last_of}
use Rattle.parts.specs.ReadingParts.{shape_under, state_kind, state_kind_by, type_at}

-- ---- keys

there : (o : Option Kind) (k : Kind) → o ≡ Some k → (d : Kind) → o ≡ Some (unwrap_or o d)
there None k e d = absurd cc
there (Some j) k e d = refl

column-there : (fields : List Field) (place : ℕ) → place < length fields → kind_at fields place ≡ Some (type_at fields place)
column-there [] place l = absurd (omega (arith, l))
column-there (field ∷ fields) zero l = refl
column-there (field ∷ fields) (suc place) l = column-there fields place (omega (arith, l))

held : (fields : List Field) (place : ℕ) (d : Datum) → place < length fields → Holds (type_at fields place) d → IsHeld (kind_at fields place) d
held fields place d l h = subst (λ k. IsHeld k d) (sym (column-there fields place l)) h

key-typed : (fields : List Field) (places : List ℕ) (key : Key) → AreColumns fields places → AllZip Holds (map (type_at fields) places) key → IsKeyOf fields places key
key-typed fields [] [] columns h = tt
key-typed fields [] (d ∷ key) columns h = absurd h
key-typed fields (place ∷ places) [] columns h = absurd h
key-typed fields (place ∷ places) (d ∷ key) columns h = (held fields place d columns.0 h.0, key-typed fields places key columns.1 h.1)

-- ---- states

-- of the forms that are kept
rows-form : (members : ℕ) (s : FunctionState) → known.IsStateFor members kind.Rows s → IsRowsState s
rows-form members state.rows h = tt
rows-form members (state.counted n) h = elim h [ ]
rows-form members (state.summed z n) h = elim h [ ]
rows-form members (state.extreme d) h = elim h [ ]
rows-form members (state.collected ds) h = elim h [ ]

count-form : (members : ℕ) (s : FunctionState) → known.IsStateFor members kind.Count s → IsCountState members s
count-form members state.rows h = elim h [ ]
count-form members (state.counted n) h = h
count-form members (state.summed z n) h = elim h [ ]
count-form members (state.extreme d) h = elim h [ ]
count-form members (state.collected ds) h = elim h [ ]

-- a sum of so many numbers of 64 bits is not above as many times 2^63
sum-within : (n : ℕ) (z : ℤ) → known.IsSumOf n z → IsSumOf n z
sum-within n z h = (h.0, omega (arith, ints, h.1))

sum-form : (members : ℕ) (s : FunctionState) → known.IsStateFor members kind.Sum s → IsSumState members s
sum-form members state.rows h = elim h [ ]
sum-form members (state.counted n) h = elim h [ ]
sum-form members (state.summed z n) h = (h.0, sum-within n z h.1)
sum-form members (state.extreme d) h = elim h [ ]
sum-form members (state.collected ds) h = elim h [ ]

extreme-form : (k : Kind) (members : ℕ) (s : FunctionState) → known.IsStateFor members (kind.Extreme k) s → IsExtremeState s
extreme-form k members state.rows h = elim h [ ]
extreme-form k members (state.counted n) h = elim h [ ]
extreme-form k members (state.summed z n) h = elim h [ ]
extreme-form k members (state.extreme d) h = tt
extreme-form k members (state.collected ds) h = elim h [ ]

distinct-form : (k : Kind) (members : ℕ) (s : FunctionState) → known.IsStateFor members (kind.Distinct k) s → IsDistinctState s
distinct-form k members state.rows h = elim h [ ]
distinct-form k members (state.counted n) h = elim h [ ]
distinct-form k members (state.summed z n) h = elim h [ ]
distinct-form k members (state.extreme d) h = elim h [ ]
distinct-form k members (state.collected ds) h = h.1.ascending

form : (fields : List Field) (filter : Option ℕ) (f : ColumnFunction) (members : ℕ) (s : FunctionState) → known.IsStateFor members (state_kind_by fields filter f) s → HasFormBy filter f members s
form fields None function.CountRows members s h = rows-form members s h
form fields None (function.Count place) members s h = count-form members s h
form fields None (function.CountDistinct place) members s h = distinct-form (type_at fields place) members s h
form fields None (function.Sum place) members s h = sum-form members s h
form fields None (function.Min place) members s h = extreme-form (type_at fields place) members s h
form fields None (function.Max place) members s h = extreme-form (type_at fields place) members s h
form fields None (function.Avg place) members s h = sum-form members s h
form fields (Some i) function.CountRows members s h = count-form members s h
form fields (Some i) (function.Count place) members s h = count-form members s h
form fields (Some i) (function.CountDistinct place) members s h = distinct-form (type_at fields place) members s h
form fields (Some i) (function.Sum place) members s h = sum-form members s h
form fields (Some i) (function.Min place) members s h = extreme-form (type_at fields place) members s h
form fields (Some i) (function.Max place) members s h = extreme-form (type_at fields place) members s h
form fields (Some i) (function.Avg place) members s h = sum-form members s h

forms : (fields : List Field) (functions : List FilteredFunction) (members : ℕ) (states : List FunctionState) → AllZip (known.IsStateFor members) (map (state_kind fields) functions) states → AreStatesFor functions members states
forms fields [] members [] h = tt
forms fields [] members (s ∷ states) h = absurd h
forms fields (f ∷ functions) members [] h = absurd h
forms fields (f ∷ functions) members (s ∷ states) h = (form fields f.filter f.function members s h.0, forms fields functions members states h.1)

-- a value that its column holds
held-state : (fields : List Field) (place members : ℕ) (s : FunctionState) → place < length fields → known.IsStateFor members (kind.Extreme (type_at fields place)) s → IsExtremeOf fields (function.Min place) s × IsExtremeOf fields (function.Max place) s
held-state fields place members state.rows l h = elim h [ ]
held-state fields place members (state.counted n) l h = elim h [ ]
held-state fields place members (state.summed z n) l h = elim h [ ]
held-state fields place members (state.extreme d) l h = (held fields place d l h, held fields place d l h)
held-state fields place members (state.collected ds) l h = elim h [ ]

typed : (fields : List Field) (filter : Option ℕ) (f : ColumnFunction) (members : ℕ) (s : FunctionState) → HasColumn fields f → known.IsStateFor members (state_kind_by fields filter f) s → IsExtremeOf fields f s
typed fields filter function.CountRows members s l h = tt
typed fields filter (function.Count place) members s l h = tt
typed fields filter (function.CountDistinct place) members s l h = tt
typed fields filter (function.Sum place) members s l h = tt
typed fields filter (function.Min place) members s l h = (held-state fields place members s l h).0
typed fields filter (function.Max place) members s l h = (held-state fields place members s l h).1
typed fields filter (function.Avg place) members s l h = tt

all-typed : (fields : List Field) (functions : List FilteredFunction) (members : ℕ) (states : List FunctionState) → HaveColumns fields functions → AllZip (known.IsStateFor members) (map (state_kind fields) functions) states
    → AllZip (λ f s. IsExtremeOf fields f.function s) functions states
all-typed fields [] members [] columns h = tt
all-typed fields [] members (s ∷ states) columns h = absurd h
all-typed fields (f ∷ functions) members [] columns h = absurd h
all-typed fields (f ∷ functions) members (s ∷ states) columns h = (typed fields f.filter f.function members s columns.0 h.0, all-typed fields functions members states columns.1 h.1)

-- ---- groups

module _ (fields : List Field) (q : Query) (last : Option Key) (left : ℕ) (g : EntryForm) (fits : known.IsGroupFor (shape_under fields q) last left g) where
  group-form : IsEntryFor (indexed_functions fields q) g
  group-form = forms fields (indexed_functions fields q) g.members g.states fits.states

  group-typed : IsTypedEntry fields (grouping_places fields q) (indexed_functions fields q) g
  group-typed = record {
    key = key-typed fields (grouping_places fields q) g.key (grouping-columns fields q) fits.key;
    states = all-typed fields (indexed_functions fields q) g.members g.states (functions-columns fields q) fits.states;
  }

-- ---- groups, one behind the other

-- what is behind a key is behind each key that is above it
behind-above : (key above : Key) (gs : List EntryForm) → IsBehind key gs → key_order key above ≡ Less → IsBehind above gs
behind-above key above gs behind l = All-weaker (λ g. key_order g.key key ≡ Less) (λ g. key_order g.key above ≡ Less) (λ g h. key_total.trans g.key key above h l) gs behind

-- a group that fits behind those so far can be held once the last of these was put to the result
module _ (plan : PlannedQuery) (before next : PartialState) (last : Option GroupEntry) (left : ℕ) (group : GroupEntry) (fits : known.IsGroupFor (shape_under plan.fields plan.query) (option_map key_of last) left (entry_of group)) where
  behind-last : (last : Option GroupEntry) → IsLastOf plan before last → (last ≡ None → groups_in before ≡ []) → known.IsAbove key_order (option_map key_of last) (key_of group) → groups_in next ≡ groups_in before ++ last_of last → IsBehind (key_of group) (groups_in next)
  behind-last None is first above same = subst (IsBehind (key_of group)) (sym (same ∙ append-nil (groups_in before) ∙ first refl)) (All-nil (λ g. key_order g.key (key_of group) ≡ Less))
  behind-last (Some l) is first above same =
      subst (IsBehind (key_of group)) (sym same)
      (All-push (λ g. key_order g.key (key_of group) ≡ Less) (groups_in before) (entry_of l) (behind-above (key_of l) (key_of group) (groups_in before) is.behind above) above)

  pub can-hold : CanHold plan before last left → (last ≡ None → groups_in before ≡ []) → groups_in next ≡ groups_in before ++ last_of last → CanHold plan next None left → CanHold plan next (Some group) (left - group.members)
  can-hold can first same put =
      let room = put.room in
      let few = fits.members in
      record {
        sound = put.sound;
        is_next = record {
          behind = behind-last last can.is_next first fits.above same;
          form = group-form plan.fields plan.query (option_map key_of last) left (entry_of group) fits;
          typed = group-typed plan.fields plan.query (option_map key_of last) left (entry_of group) fits;
        };
        members = put.members;
        within = put.within;
        room = omega (arith, room, few);
      }
