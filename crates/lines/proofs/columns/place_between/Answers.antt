use Rattle.std.proofs.Common.{◌≡◌, ◌≢◌, ◌<◌, ◌≤◌, ℕ, List, true≢false, get_or, length, string_bytes, sym, ap, ◌∙◌, arith}
use Rattle.std.proofs.lemmas.List.{get_or-map}
use Rattle.std.proofs.lemmas.Slice.Eq.{bytes_eq-Decides}
use Rattle.values.specs.declared.schema.Column.{Column}
use Rattle.semantics.specs.Columns.{Field}
use Rattle.values.specs.Schema.{field_of, fields_of}
use Rattle.lines.proofs.columns.place_between.Goals as goal
use borrow.Author.Count.{below_more}

-- the name of the field at a place is that of the column there
name_at : (columns : List Column) (place : ℕ) (c : Column) (d : Field) → place < length columns → (get_or (fields_of columns) place d).name ≡ string_bytes (get_or columns place c).name
name_at columns place c d within = ap (λ f. f.name) (get_or-map field_of columns place c d within)

pub returns-then-eq : goal.returns-then-eq
returns-then-eq c =
    let within : c.loop-place.place < length c.args.columns.now = omega (arith, c.loop-place-test.true, c.requires) in
    let same : c.as_bytes.result.now ≡ c.args.name.now = (bytes_eq-Decides c.as_bytes.result.now c.args.name.now).0 (sym c.if-eq.ensures) in (
      within,
      λ d. name_at c.args.columns.now c.loop-place.place c.index-columns-place.result d within ∙ sym c.as_bytes.ensures.value ∙ same,
    )

pub loop-place-preserved : goal.loop-place-preserved
loop-place-preserved c =
    let within : c.loop-place.place < length c.args.columns.now = omega (arith, c.loop-place-test.true, c.requires) in
    below_more (λ k. c.args.low ≤ k → (d : Field) → (get_or (fields_of c.args.columns.now) k d).name ≢ c.args.name.now) c.loop-place.place c.loop-place.invariant
    (λ above d same.
    let named : c.as_bytes.result.now ≡ c.args.name.now = c.as_bytes.ensures.value ∙ sym (name_at c.args.columns.now c.loop-place.place c.index-columns-place.result d within) ∙ same in
    true≢false (sym ((bytes_eq-Decides c.as_bytes.result.now c.args.name.now).1 named) ∙ sym c.if-eq.ensures))

pub returns : goal.returns
returns c = λ k above below. c.loop-place.invariant k (omega (arith, below, c.loop-place-test.false)) above
