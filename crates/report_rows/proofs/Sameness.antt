-- A test of equality for what is shown of a group beside the index of its grouping set.
use Rattle.std.proofs.Common.{◌≡◌, Bool, List, [], ◌∷◌, refl, ap, ◌∙◌}
use Rattle.std.specs.declared.cmp.Ordering.{Ordering}
use Rattle.std.specs.declared.cmp.Ordering.TheVariants.{Less, Equal, Greater}
use Rattle.std.specs.Ordering.{is_eq, nat_cmp, int_cmp, ordering_then}
use Rattle.std.specs.Cmp.{Equal-is, tied_itself, nat_cmp_total, int_cmp_total}
use Rattle.std.specs.Cmp.Lexicographic.{slice_cmp}
use Rattle.std.specs.FinMap.{IsAntisymmetric, slice_cmp-IsAntisymmetric}
use Rattle.std.proofs.lemmas.Map.Lookups.{exact_unsigned, exact_signed}
use Rattle.semantics.specs.Values.{value_order}
use Rattle.semantics.specs.Aggregates.{CellValue, plain, ratio}
use Rattle.semantics.specs.Groups.{key_order}
use Rattle.group_tables.proofs.Order.{value_total, value_antisymmetric, key_total, key_antisymmetric}
use Rattle.semantics.specs.ResultRows.{ResultRow}
use Rattle.group_tables.proofs.Sorting.{Tells}

-- where two orders in a row tie, each does
pub both-tied : (a b : Ordering) → ordering_then a b ≡ Equal → (a ≡ Equal) × (b ≡ Equal)
both-tied Less b e = absurd cc
both-tied Equal b e = (refl, e)
both-tied Greater b e = absurd cc

then-tied : (a b : Ordering) → a ≡ Equal → b ≡ Equal → ordering_then a b ≡ Equal
then-tied a b p q = ap (λ (o : Ordering). ordering_then o b) p ∙ q

abbrev cell_order : CellValue → CellValue → Ordering
cell_order (plain d) (plain e) = value_order d e
cell_order (plain d) (ratio s n) = Less
cell_order (ratio s n) (plain e) = Greater
cell_order (ratio s n) (ratio t m) = ordering_then (int_cmp s t) (nat_cmp n m)

cell_antisymmetric : IsAntisymmetric cell_order
cell_antisymmetric (plain d) (plain e) h = ap plain (value_antisymmetric d e h)
cell_antisymmetric (plain d) (ratio s n) h = absurd cc
cell_antisymmetric (ratio s n) (plain e) h = absurd cc
cell_antisymmetric (ratio s n) (ratio t m) h =
    let p = both-tied (int_cmp s t) (nat_cmp n m) h in
    λ i. ratio (exact_signed s t p.0 i) (exact_unsigned n m p.1 i)

cell_itself : (c : CellValue) → cell_order c c ≡ Equal
cell_itself (plain d) = tied_itself value_total d
cell_itself (ratio s n) = then-tied (int_cmp s s) (nat_cmp n n) (tied_itself int_cmp_total s) (tied_itself nat_cmp_total n)

cells_itself : (cs : List CellValue) → slice_cmp cell_order cs cs ≡ Equal
cells_itself [] = refl
cells_itself (c ∷ cs) = then-tied (cell_order c c) (slice_cmp cell_order cs cs) (cell_itself c) (cells_itself cs)

abbrev found_order : ResultRow → ResultRow → Ordering
found_order x y = ordering_then (nat_cmp x.0 y.0) (ordering_then (key_order x.1.key y.1.key) (ordering_then (nat_cmp x.1.lines y.1.lines) (slice_cmp cell_order x.1.cells y.1.cells)))

abbrev pub same_found : ResultRow → ResultRow → Bool
same_found x y = is_eq (found_order x y)

found_equal : (x y : ResultRow) → found_order x y ≡ Equal → x ≡ y
found_equal x y h =
    let p = both-tied (nat_cmp x.0 y.0) (ordering_then (key_order x.1.key y.1.key) (ordering_then (nat_cmp x.1.lines y.1.lines) (slice_cmp cell_order x.1.cells y.1.cells))) h in
    let q = both-tied (key_order x.1.key y.1.key) (ordering_then (nat_cmp x.1.lines y.1.lines) (slice_cmp cell_order x.1.cells y.1.cells)) p.1 in
    let r = both-tied (nat_cmp x.1.lines y.1.lines) (slice_cmp cell_order x.1.cells y.1.cells) q.1 in
    λ i. (
      exact_unsigned x.0 y.0 p.0 i,
      record {
        key = key_antisymmetric x.1.key y.1.key q.0 i;
        lines = exact_unsigned x.1.lines y.1.lines r.0 i;
        cells = slice_cmp-IsAntisymmetric cell_antisymmetric x.1.cells y.1.cells r.1 i;
      },
    )

found_itself : (x : ResultRow) → found_order x x ≡ Equal
found_itself x =
    then-tied (nat_cmp x.0 x.0) _ (tied_itself nat_cmp_total x.0)
    (then-tied (key_order x.1.key x.1.key) _ (tied_itself key_total x.1.key)
    (then-tied (nat_cmp x.1.lines x.1.lines) _ (tied_itself nat_cmp_total x.1.lines) (cells_itself x.1.cells)))

pub found-tells : Tells same_found
found-tells = record {
  equal = λ x y h. found_equal x y ((Equal-is (found_order x y)).0 h);
  itself = λ x. (Equal-is (found_order x x)).1 (found_itself x);
}
