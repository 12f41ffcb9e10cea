-- The grouping sets of a query, computed on an example.
use Rattle.std.proofs.Common.{◌≡◌, Bool, true, false, List, [], ◌∷◌, None, refl, codes}
use Rattle.semantics.specs.declared.kind.Kind.TheVariants as kind
use Rattle.semantics.specs.Columns.{Field}
use Rattle.semantics.specs.Syntax.{Query, set, sets, no_groups, group}
use Rattle.semantics.specs.Sets.{sets_of}

abbrev fields : List Field
fields = record { name = codes "d"; kind = kind.Text } ∷ record { name = codes "r"; kind = kind.Text } ∷ []

-- GROUP BY GROUPING SETS ((r, d), (d, r), (), ()), with DISTINCT or without it
abbrev twice : Bool → Query
twice distinct = record {
  items = [];
  where_condition = None;
  distinct_sets = distinct;
  groups = sets (group (set (codes "r" ∷ codes "d" ∷ [])) (group (set (codes "d" ∷ codes "r" ∷ [])) (group (set []) (group (set []) no_groups)))) ∷ [];
  having_condition = None;
  keys = [];
}

repeats_kept : sets_of fields (twice false) ≡ (1 ∷ 0 ∷ []) ∷ (1 ∷ 0 ∷ []) ∷ [] ∷ [] ∷ []
repeats_kept = refl

repeats_dropped : sets_of fields (twice true) ≡ (1 ∷ 0 ∷ []) ∷ [] ∷ []
repeats_dropped = refl
