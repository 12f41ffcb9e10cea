use Rattle.std.proofs.Common.{map, take}
use Rattle.query_ast.specs.Syntax.{key_form}
use Rattle.report_rows.specs.Inside.SortEntries.{AreTelling, coded_form}
use Rattle.report_rows.proofs.telling_keys.telling_keys.Given as goal

-- the keys that are kept tell what the keys so far do
abbrev pub invariant-loop-key : goal.invariant-loop-key
invariant-loop-key l = AreTelling (map coded_form l.kept.items) (map key_form (take l.key-index l.keys)) l.plan.fields l.plan.query
