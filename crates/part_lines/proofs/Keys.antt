-- The order of the code's keys.
use Rattle.std.proofs.Common.{◌≡◌, List, [], ◌∷◌, true, refl}
use Rattle.std.proofs.lemmas.Bool.{false≢true}
use Rattle.std.specs.Cmp.Lexicographic.{slice_cmp}
use Rattle.std.specs.Ordering.{is_lt, ordering_then}
use Rattle.std.specs.declared.cmp.Ordering.{Ordering}
use Rattle.std.specs.declared.cmp.Ordering.TheVariants.{Less, Equal, Greater}
use Rattle.semantics.specs.Groups.{key_order}
use Rattle.semantics.specs.Values.{value_order}
use Rattle.values.specs.Datum.{data_of, datum_of}
use Rattle.values.specs.contracts.value.ValueOrd.TheImpl.{cmp-value}
use Rattle.values.specs.declared.value.Value.{Value}
use Rattle.values.specs.declared.value.Value.TheVariants as v

value-order : (x y : Value) → cmp-value.it x y ≡ value_order (datum_of x) (datum_of y)
value-order (v.Bool a) (v.Bool b) = refl
value-order (v.Bool a) (v.Int n) = refl
value-order (v.Bool a) (v.Text s) = refl
value-order (v.Bool a) v.Null = refl
value-order (v.Int m) (v.Bool b) = refl
value-order (v.Int m) (v.Int n) = refl
value-order (v.Int m) (v.Text s) = refl
value-order (v.Int m) v.Null = refl
value-order (v.Text s) (v.Bool b) = refl
value-order (v.Text s) (v.Int n) = refl
value-order (v.Text s) (v.Text t) = refl
value-order (v.Text s) v.Null = refl
value-order v.Null (v.Bool b) = refl
value-order v.Null (v.Int n) = refl
value-order v.Null (v.Text s) = refl
value-order v.Null v.Null = refl

pub keys-order : (k l : List Value) → slice_cmp cmp-value.it k l ≡ key_order (data_of k) (data_of l)
keys-order [] [] = refl
keys-order [] (y ∷ l) = refl
keys-order (x ∷ k) [] = refl
keys-order (x ∷ k) (y ∷ l) = λ i. ordering_then (value-order x y i) (keys-order k l i)

pub is_less : (o : Ordering) → is_lt o ≡ true → o ≡ Less
is_less Less h = refl
is_less Equal h = absurd (false≢true h)
is_less Greater h = absurd (false≢true h)
