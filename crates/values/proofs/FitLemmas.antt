-- Records that fit, column by column.
use Rattle.std.proofs.Common.{◌≡◌, ℕ, zero, suc, ◌+◌, ◌<◌, List, [], ◌∷◌, length, get_or, refl, sym, ap, subst, inl, inr, arith}
use Rattle.std.proofs.lemmas.Bool.{cases_lt}
use Rattle.values.specs.declared.schema.Column.{Column}
use Rattle.values.specs.declared.value.Value.{Value}
use Rattle.values.specs.Datum.{datum_of, data_of}
use Rattle.values.specs.Schema.{fields_of}
use Rattle.semantics.specs.Records.{Holds, Fits}

-- each column holds its value
abbrev pub EachHolds : List Column → List Value → ℕ → Type 0
EachHolds columns values n = (k : ℕ) (c : Column) (v : Value) → k < n → Holds (get_or columns k c).kind (datum_of (get_or values k v))

-- one more column holds its value
pub EachHolds-push : (columns : List Column) (values : List Value) (n : ℕ) (column : Column) (value : Value) → EachHolds columns values n → ((c : Column) → column ≡ get_or columns n c) → ((v : Value) → value ≡ get_or values n v) → Holds column.kind (datum_of value) → EachHolds columns values (n + 1)
EachHolds-push columns values n column value h c v now k d w l =
    elim (cases_lt k n) [
      | inl less ↦ h k d w less
      | inr most ↦
          let same : k ≡ n = omega (arith, most, l) in
          subst (λ m. Holds (get_or columns m d).kind (datum_of (get_or values m w))) (sym same)
          (subst (λ x. Holds x.kind (datum_of (get_or values n w))) (c d) (subst (λ y. Holds column.kind (datum_of y)) (v w) now))
    ]

pub Fits-from_each : (columns : List Column) (values : List Value) → length columns ≡ length values → EachHolds columns values (length columns) → Fits (fields_of columns) (data_of values)
Fits-from_each [] [] e h = tt
Fits-from_each [] (v ∷ vs) e h = absurd (omega (arith, e))
Fits-from_each (c ∷ cs) [] e h = absurd (omega (arith, e))
Fits-from_each (c ∷ cs) (v ∷ vs) e h = (h 0 c v (omega arith), Fits-from_each cs vs (omega (arith, e)) (λ k d w l. h (suc k) d w (omega (arith, l))))

pub each_from_Fits : (columns : List Column) (values : List Value) → Fits (fields_of columns) (data_of values) → EachHolds columns values (length columns)
each_from_Fits [] values h k c v l = absurd (omega arith)
each_from_Fits (x ∷ cs) [] h k c v l = absurd h
each_from_Fits (x ∷ cs) (y ∷ vs) h zero c v l = h.0
each_from_Fits (x ∷ cs) (y ∷ vs) h (suc k) c v l = each_from_Fits cs vs h.1 k c v (omega (arith, l))

pub length-Fits : (columns : List Column) (values : List Value) → Fits (fields_of columns) (data_of values) → length columns ≡ length values
length-Fits [] [] h = refl
length-Fits [] (v ∷ vs) h = absurd h
length-Fits (c ∷ cs) [] h = absurd h
length-Fits (c ∷ cs) (v ∷ vs) h = ap suc (length-Fits cs vs h.1)
