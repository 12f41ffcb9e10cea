use Rattle.std.proofs.Common.{◌≡◌, ◌++◌, drop, map, string_bytes}
use Rattle.std.specs.Prelude.{codes}
use Rattle.std.specs.List.{flat_map}
use Rattle.semantics.specs.Canonical.{comma_list}
use Rattle.query_printer.proofs.lists.write_list.Given as goal

abbrev pub invariant-loop-item : goal.invariant-loop-item
invariant-loop-item g l = string_bytes l.out ++ flat_map (λ text. codes ", " ++ text) (map g.T.Written.text (map g.T.Written.form (drop l.item-index l.others))) ≡ string_bytes l.fn.out ++ comma_list (map g.T.Written.text (map g.T.Written.form l.list))
