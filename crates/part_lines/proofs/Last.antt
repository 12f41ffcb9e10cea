-- The last one of some values.
use Rattle.std.proofs.Common.{◌≡◌, ◌-◌, suc, List, [], ◌∷◌, ◌++◌, length, Option, None, Some, option_map, refl, ap, ◌∙◌, arith, length-append}
use Rattle.std.specs.Prelude.{slice_get}
use Rattle.semantics.specs.Values.{Datum}
use Rattle.values.specs.Datum.{data_of, datum_of}
use Rattle.values.specs.declared.value.Value.{Value}
use Rattle.part_lines.proofs.Facts.{last_from}

abbrev pub last_of : List Value → Option Datum
last_of values = option_map datum_of (slice_get values (length values - 1))

slice_get-behind : {X : Type 0} (xs : List X) (x : X) → slice_get (xs ++ x ∷ []) (length xs) ≡ Some x
slice_get-behind [] x = refl
slice_get-behind (y ∷ xs) x = slice_get-behind xs x

pub last_of-push : (values : List Value) (v : Value) → last_of (values ++ v ∷ []) ≡ Some (datum_of v)
last_of-push values v =
    let at : length (values ++ v ∷ []) - 1 ≡ length values = omega (arith, length-append values (v ∷ [])) in
    ap (λ i. option_map datum_of (slice_get (values ++ v ∷ []) i)) at ∙ ap (option_map datum_of) (slice_get-behind values v)

last_of-some : (last : Option Datum) (v : Value) (values : List Value) → last_of (v ∷ values) ≡ last_from last (data_of (v ∷ values))
last_of-some last v [] = refl
last_of-some last v (w ∷ values) =
    let at : length (v ∷ w ∷ values) - 1 ≡ suc (length (w ∷ values) - 1) = omega arith in
    ap (λ i. option_map datum_of (slice_get (v ∷ w ∷ values) i)) at ∙ last_of-some (Some (datum_of v)) w values

pub last_of-from : (values : List Value) → last_of values ≡ last_from None (data_of values)
last_of-from [] = refl
last_of-from (v ∷ values) = last_of-some None v values
