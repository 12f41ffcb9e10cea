-- The orders of values, of rows, and of rows beside sort keys are total.
use Rattle.std.proofs.Common.{◌≡◌, ℕ, Bool, true, false, cond, if◌then◌else◌, List, [], ◌∷◌, refl, subst}
use Rattle.std.specs.declared.cmp.Ordering.{Ordering}
use Rattle.std.specs.declared.cmp.Ordering.TheVariants.{Equal}
use Rattle.std.specs.Ordering.{nat_cmp, ordering_reverse, ordering_then}
use Rattle.std.specs.Cmp.{IsTotalOrder, back_total, nat_cmp_total, on_total, then_total}
use Rattle.std.specs.Cmp.Derive.{point_total}
use Rattle.std.specs.Cmp.Lexicographic.{lists_total}
use Rattle.semantics.specs.Values.{Datum, boolean, whole, text, null, is_null, value_order}
use Rattle.semantics.specs.Columns.{Field}
use Rattle.semantics.specs.Syntax.{SortKey, Query}
use Rattle.group_tables.proofs.Order.{value_total}
use Rattle.semantics.specs.ResultRows.{ResultRow}
use Rattle.semantics.specs.Order.{row_order, grouping_values, key_value, null_order, compare_by_key, compare_by_keys}
use Rattle.report_rows.specs.Inside.SortEntries.{EntryForm, by_code}
use Rattle.sort_keys.proofs.Totals.{parts-total}

-- ---- values under a key

-- the other way round
turned : (a b : Datum) → value_order b a ≡ ordering_reverse (value_order a b)
turned a b = let o = value_total in o.antisymm b a

-- values that are not NULL: they ascend, and under DESC it is the other way round
abbrev directed_order : Bool → Datum → Datum → Ordering
directed_order descending a b = if descending then ordering_reverse (value_order a b) else value_order a b

directed-total : (descending : Bool) → IsTotalOrder (directed_order descending)
directed-total true = subst (λ (order : Datum → Datum → Ordering). IsTotalOrder order) (λ i a b. turned a b i) (back_total value_total)
directed-total false = value_total

-- the place of NULL, and that of the values that are not NULL
abbrev null_rank : Bool → Bool → ℕ
null_rank true true = 0
null_rank true false = 1
null_rank false true = 1
null_rank false false = 0

null-tied : (descending : Bool) (a b : Datum) → is_null a ≡ true → is_null b ≡ true → directed_order descending a b ≡ Equal
null-tied true null null e f = refl
null-tied false null null e f = refl
null-tied d null (boolean b) e f = absurd cc
null-tied d null (whole n) e f = absurd cc
null-tied d null (text s) e f = absurd cc
null-tied d (boolean a) b e f = absurd cc
null-tied d (whole m) b e f = absurd cc
null-tied d (text s) b e f = absurd cc

by-place : (nulls_first a b : Bool) (o : Ordering) → (a ≡ true → b ≡ true → o ≡ Equal)
    → ordering_then (nat_cmp (null_rank nulls_first a) (null_rank nulls_first b)) o ≡ cond a (cond b Equal (null_order nulls_first)) (cond b (ordering_reverse (null_order nulls_first)) o)
by-place true true true o tied = tied refl refl
by-place true true false o tied = refl
by-place true false true o tied = refl
by-place true false false o tied = refl
by-place false true true o tied = tied refl refl
by-place false true false o tied = refl
by-place false false true o tied = refl
by-place false false false o tied = refl

pub under_key-total : (k : SortKey) → IsTotalOrder (compare_by_key k)
under_key-total k =
    subst (λ (order : Datum → Datum → Ordering). IsTotalOrder order)
    (λ i a b. by-place k.nulls_first (is_null a) (is_null b) (directed_order k.descending a b) (null-tied k.descending a b) i)
    (then_total (on_total (λ (d : Datum). null_rank k.nulls_first (is_null d)) nat_cmp_total) (directed-total k.descending))

-- ---- rows

under_keys-total : (fields : List Field) (t : Query) (ks : List SortKey) → IsTotalOrder (compare_by_keys fields t ks)
under_keys-total fields t [] = point_total
under_keys-total fields t (k ∷ ks) = then_total (on_total (λ (x : ResultRow). key_value fields t x k) (under_key-total k)) (under_keys-total fields t ks)

pub before-total : (fields : List Field) (t : Query) → IsTotalOrder (row_order fields t)
before-total fields t =
    then_total (under_keys-total fields t t.keys) (then_total (on_total (λ (x : ResultRow). x.0) nat_cmp_total) (on_total (grouping_values fields t) (lists_total value_total)))

-- ---- rows beside sort keys

pub by_code-total : IsTotalOrder by_code
by_code-total = on_total (λ (r : EntryForm). r.0) parts-total
