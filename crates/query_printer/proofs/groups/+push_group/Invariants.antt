use Rattle.std.proofs.Common.{◌≡◌, ◌++◌, drop, map, string_bytes}
use Rattle.std.specs.Prelude.{codes}
use Rattle.std.specs.List.{flat_map}
use Rattle.query_ast.specs.Syntax.{element_form}
use Rattle.semantics.specs.Syntax.{element_forms}
use Rattle.semantics.specs.Canonical.{comma_list, group_texts}
use Rattle.query_printer.proofs.groups.+push_group.Given as goal

abbrev pub invariant-push_groups-loop-group : goal.invariant-push_groups-loop-group
invariant-push_groups-loop-group l = string_bytes l.out ++ flat_map (λ text. codes ", " ++ text) (group_texts (element_forms (map element_form (drop l.group-index l.others)))) ≡ string_bytes l.fn.out ++ comma_list (group_texts (element_forms (map element_form l.groups)))
