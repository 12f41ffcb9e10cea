use Rattle.std.proofs.Common.{◌≡◌, ◌≢◌, ◌==◌, true, Bool, ℕ, List, [], length, map, Result, Ok, Err, IfOk, arith, eq-eqb}
use Rattle.std.proofs.lemmas.Result.{IfOk-weaker}
use Rattle.query_resolve.specs.declared.function.FilteredFunction.{FilteredFunction}
use Rattle.std.specs.FinMap as fin
use Rattle.group_tables.specs.Functions.{aggregate_of}
use Rattle.semantics.specs.Groups.{Key, Record}
use Rattle.group_tables.specs.Inside.Group.{no_group}
use Rattle.group_tables.specs.Table.{Contents, IsTableOf}
use Rattle.group_tables.specs.Inside.Table.{IsPut}
use Rattle.group_tables.proofs.Meaning.{table-empty_set, table-no_group}
use Rattle.group_tables.proofs.table.Table.new.Goals as goal

pub returns : goal.returns
returns c =
    let set = c.args.set.now in
    let some : length set ≢ 0 = λ h. let t : (length set == 0) ≡ true = eq-eqb (length set) 0 h in let f = c.if-is_empty.ensures in cc in
    record {
      empty = IfOk-weaker c.without_groups.result _ _
          (λ (t : Contents) (h : t ≡ fin.empty) (filters : List (Record → Bool)). table-no_group set (map (aggregate_of filters) c.args.functions.now) t some h)
          c.without_groups.ensures;
    }

by_key : {E : Type 0} (set : List ℕ) (functions : List FilteredFunction) (r : Result Contents E) → length set ≡ 0 → IfOk r (λ t. (k : Key) → IsPut fin.empty t [] (no_group functions) k)
    → IfOk r (λ t. (filters : List (Record → Bool)) → IsTableOf set (map (aggregate_of filters) functions) t [])
by_key set functions (Ok t) z h = table-empty_set set functions t z h
by_key set functions (Err e) z h = tt

pub returns-then-is_empty : goal.returns-then-is_empty
returns-then-is_empty c =
    let set = c.args.set.now in
    let none : length set ≡ 0 = let f = c.if-is_empty.ensures in grind (arith, f) in
    record { empty = by_key set c.args.functions.now c.with_empty_key.result none c.with_empty_key.ensures }
