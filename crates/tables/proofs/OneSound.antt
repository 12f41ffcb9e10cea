-- That a plan can finish a partial result has one proof at most.
use Rattle.std.proofs.Common.{ℕ, List, [], ◌∷◌, Option, Some, None, IfSome}
use Rattle.std.proofs.Props.{props}
use Rattle.std.specs.List.{AllZip}
use Rattle.query_plan.specs.Planned.{PlannedQuery}
use Rattle.query_resolve.specs.declared.function.FilteredFunction.{FilteredFunction}
use Rattle.semantics.specs.declared.kind.Kind.{Kind}
use Rattle.semantics.specs.declared.kind.Kind.TheVariants as kind
use Rattle.semantics.specs.Values.{Datum, boolean, whole, text, null}
use Rattle.semantics.specs.Records.{Holds}
use Rattle.semantics.specs.Columns.{Field}
use Rattle.semantics.specs.Names.{kind_at}
use Rattle.semantics.specs.declared.function.ColumnFunction.{ColumnFunction}
use Rattle.semantics.specs.declared.function.ColumnFunction.TheVariants as function
use Rattle.group_tables.specs.Fitting.{IsHeld}
use Rattle.group_tables.specs.Accumulator.{AccumulatorState, nothing, counted, summed, averaged, collected, lowest, highest}
use Rattle.group_tables.specs.Typed.{AreStatesOf, IsKeyOf, IsStateBy, IsStateCounted, IsStateOver}
use Rattle.tables.specs.Sound.{IsSoundUnder}
use Rattle.tables.specs.States.{PartialState}

zip-prop : {A B : Type 0} (R : A → B → Type 0) → ((x : A) (y : B) → IsProp (R x y)) → (xs : List A) (ys : List B) → IsProp (AllZip R xs ys)
zip-prop R one [] [] = hlevel
zip-prop R one [] (y ∷ ys) = hlevel
zip-prop R one (x ∷ xs) [] = hlevel
zip-prop R one (x ∷ xs) (y ∷ ys) = let a = one x y in let b = zip-prop R one xs ys in hlevel (a, b)

holds-prop : (k : Kind) (d : Datum) → IsProp (Holds k d)
holds-prop k null = hlevel
holds-prop kind.Int (whole n) = hlevel props
holds-prop kind.Text (text s) = hlevel
holds-prop kind.Bool (boolean b) = hlevel
holds-prop k d = hlevel

held-prop : (k : Option Kind) (d : Datum) → IsProp (IsHeld k d)
held-prop None d = hlevel
held-prop (Some k) d = holds-prop k d

key-prop : (fields : List Field) (set : List ℕ) (key : List Datum) → IsProp (IsKeyOf fields set key)
key-prop fields set key = zip-prop (λ place d. IsHeld (kind_at fields place) d) (λ place d. held-prop (kind_at fields place) d) set key

over-prop : (fields : List Field) (f : ColumnFunction) (k : AccumulatorState) → IsProp (IsStateOver fields f k)
over-prop fields function.CountRows nothing = hlevel
over-prop fields (function.Count place) (counted n) = hlevel
over-prop fields (function.CountDistinct place) (collected s) = hlevel
over-prop fields (function.Sum place) (summed s n) = hlevel
over-prop fields (function.Min place) (lowest d) = held-prop (kind_at fields place) d
over-prop fields (function.Max place) (highest d) = held-prop (kind_at fields place) d
over-prop fields (function.Avg place) (averaged s n) = hlevel
over-prop fields f k = hlevel

counted-prop : (fields : List Field) (f : ColumnFunction) (k : AccumulatorState) → IsProp (IsStateCounted fields f k)
counted-prop fields function.CountRows (counted n) = hlevel
counted-prop fields function.CountRows k = hlevel
counted-prop fields f k = over-prop fields f k

by-prop : (fields : List Field) (t : Option ℕ) (f : ColumnFunction) (k : AccumulatorState) → IsProp (IsStateBy fields t f k)
by-prop fields None f k = over-prop fields f k
by-prop fields (Some index) f k = counted-prop fields f k

states-prop : (fields : List Field) (functions : List FilteredFunction) (ks : List AccumulatorState) → IsProp (AreStatesOf fields functions ks)
states-prop fields functions ks = zip-prop (λ (f : FilteredFunction) k. IsStateBy fields f.filter f.function k) (λ f k. by-prop fields f.filter f.function k) functions ks

some-prop : {X : Type 0} (P : X → Type 0) → ((x : X) → IsProp (P x)) → (o : Option X) → IsProp (IfSome o P)
some-prop P one None = hlevel
some-prop P one (Some x) = one x

pub sound-prop : (plan : PlannedQuery) (partial : PartialState) → IsProp (IsSoundUnder plan partial)
sound-prop plan partial = hlevel (props, key-prop plan.fields, states-prop plan.fields, some-prop)
