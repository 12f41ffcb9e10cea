use Rattle.std.proofs.Common.{ℕ, List, map}
use Rattle.std.specs.Prelude.{if◌then◌else◌}
use Rattle.std.specs.Global.{Vec}
use Rattle.std.specs.Str.{bytes_eq}
use Rattle.values.specs.Schema.{fields_of}
use Rattle.query_ast.specs.Syntax.{element_form}
use Rattle.semantics.specs.Names.{places_of}
use Rattle.semantics.specs.Lists.{distinct}
use Rattle.query_resolve.specs.Resolution.{contents}
use Rattle.semantics.specs.Sets.{expansion, ordered_set, same_columns}
use Rattle.query_resolve.proofs.DistinctSets.{kept_sets}
use Rattle.query_resolve.proofs.Rows.{ok_same}
use Rattle.query_resolve.proofs.expansion.grouping_sets.Goals as goal

pub returns : goal.returns
returns c =
    let places : List (List ℕ) → List ℕ = places_of (fields_of c.args.columns.now) in
    let groups = expansion (map element_form c.args.groups.now) in
    let all : List (List ℕ) = map (λ names. ordered_set c.args.grouping.now (places names)) groups in
    let made = contents c.in_ok-all.all.items in
    ok_same c.apply_distinct.result (λ (v : Vec (Vec ℕ)). contents v.items) (if c.args.distinct_sets then distinct bytes_eq made else made) (if c.args.distinct_sets then distinct same_columns all else all) c.apply_distinct.ensures
    (kept_sets c.args.distinct_sets c.args.grouping.now places groups made c.in_ok-all.ensures)
