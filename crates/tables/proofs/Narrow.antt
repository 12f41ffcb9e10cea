-- The whole numbers of a record that fits a schema have 64 bits.
use Rattle.std.proofs.Common.{pos, negsuc, List, [], ◌∷◌, arith}
use Rattle.std.proofs.lemmas.Int.{ints}
use Rattle.semantics.specs.declared.kind.Kind.{Kind}
use Rattle.semantics.specs.declared.kind.Kind.TheVariants as kind
use Rattle.semantics.specs.Values.{Datum, boolean, whole, text, null}
use Rattle.semantics.specs.Records.{Fits, Holds}
use Rattle.semantics.specs.Columns.{Field}
use Rattle.group_tables.specs.Rows.{IsNarrow, IsNarrowRow}

one : (k : Kind) (d : Datum) → Holds k d → IsNarrow d
one k null h = tt
one k (boolean b) h = tt
one k (text s) h = tt
one kind.Int (whole (pos n)) h = (let f = h.sfits in omega (arith, ints, f), let f = h.sfits in omega (arith, ints, f))
one kind.Int (whole (negsuc n)) h = (let f = h.sfits in omega (arith, ints, f), let f = h.sfits in omega (arith, ints, f))
one kind.Text (whole n) h = absurd h
one kind.Bool (whole n) h = absurd h

pub narrow-from_fits : (fields : List Field) (row : List Datum) → Fits fields row → IsNarrowRow row
narrow-from_fits [] [] h = tt
narrow-from_fits [] (d ∷ row) h = absurd h
narrow-from_fits (f ∷ fields) [] h = absurd h
narrow-from_fits (f ∷ fields) (d ∷ row) h = (one f.kind d h.0, narrow-from_fits fields row h.1)
