-- The definitions, computed on worked examples.
use Rattle.std.proofs.Common.{◌≡◌, pos, negsuc, true, false, List, [], ◌∷◌, Some, None, refl}
use Rattle.std.specs.Prelude.{codes}
use Rattle.semantics.specs.Aggregates.{AggregateFunction}
use Rattle.semantics.specs.Groups.{Record, value_at}
use Rattle.semantics.specs.Values.{boolean, whole, text, null}
use Rattle.semantics.specs.declared.function.ColumnFunction.{ColumnFunction}
use Rattle.semantics.specs.declared.function.ColumnFunction.TheVariants as function
use Rattle.semantics.specs.GroupStates.{rows, counted, summed, extreme, collected, entries_over}

-- Some sales: a shop, an amount, and whether a member bought.
abbrev sales : List Record
sales =
    (text (codes "Quay") ∷ whole (pos 7) ∷ boolean true ∷ [])
    ∷ (null ∷ whole (pos 1) ∷ null ∷ [])
    ∷ (text (codes "Dock") ∷ null ∷ boolean false ∷ [])
    ∷ (text (codes "Quay") ∷ whole (negsuc 1) ∷ null ∷ [])
    ∷ (text (codes "Quay") ∷ whole (pos 7) ∷ boolean false ∷ [])
    ∷ []

abbrev over_all : ColumnFunction → AggregateFunction
over_all f = record { function = f; filter = None }

-- Those bought by somebody of whom it is known.
abbrev known : ColumnFunction → AggregateFunction
known f = record { function = f; filter = Some (λ row. elim (value_at 2 row) [ boolean b ↦ true | whole n ↦ true | text s ↦ true | null ↦ false ]) }

-- A key is NULL: it is the last one.
shops : entries_over (0 ∷ []) (over_all function.CountRows ∷ over_all (function.Sum 1) ∷ []) sales ≡
    record { key = text (codes "Dock") ∷ []; members = 1; states = rows ∷ summed (pos 0) 0 ∷ [] }
    ∷ record { key = text (codes "Quay") ∷ []; members = 3; states = rows ∷ summed (pos 12) 3 ∷ [] }
    ∷ record { key = null ∷ []; members = 1; states = rows ∷ summed (pos 1) 1 ∷ [] }
    ∷ []
shops = refl

-- Without GROUP BY there is one group, with each set function.
whole_input : entries_over [] (over_all (function.Count 0) ∷ over_all (function.CountDistinct 1) ∷ over_all (function.Avg 1) ∷ over_all (function.Min 1) ∷ over_all (function.Max 0) ∷ []) sales ≡
    record {
      key = [];
      members = 5;
      states = counted 4 ∷ collected (whole (negsuc 1) ∷ whole (pos 1) ∷ whole (pos 7) ∷ []) ∷ summed (pos 13) 4 ∷ extreme (whole (negsuc 1)) ∷ extreme (text (codes "Quay")) ∷ [];
    } ∷ []
whole_input = refl

-- With a FILTER the count of COUNT(*) is kept, and the others are over the records that it keeps.
filtered : entries_over [] (known function.CountRows ∷ known (function.Sum 1) ∷ known (function.CountDistinct 0) ∷ []) sales ≡
    record {
      key = [];
      members = 5;
      states = counted 3 ∷ summed (pos 14) 2 ∷ collected (text (codes "Dock") ∷ text (codes "Quay") ∷ []) ∷ [];
    } ∷ []
filtered = refl

-- Over no records there is a group under the empty set, and none under another one.
no_records : entries_over [] (over_all (function.Min 0) ∷ over_all (function.Sum 1) ∷ []) [] ≡ record { key = []; members = 0; states = extreme null ∷ summed (pos 0) 0 ∷ [] } ∷ []
no_records = refl

no_groups : entries_over (0 ∷ []) (over_all (function.Min 0) ∷ []) [] ≡ []
no_groups = refl

-- A sum of more than 64 bits stays exact.
abbrev largest : Record
largest = whole (pos 9223372036854775807) ∷ []

large : entries_over [] (over_all (function.Sum 0) ∷ []) (largest ∷ largest ∷ largest ∷ []) ≡ record { key = []; members = 3; states = summed (pos 27670116110564327421) 3 ∷ [] } ∷ []
large = refl
