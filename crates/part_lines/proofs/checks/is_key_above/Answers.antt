use Rattle.std.proofs.Common.{ap, sym, ◌∙◌}
use Rattle.std.specs.Ordering.{is_lt}
use Rattle.semantics.specs.Groups.{key_order}
use Rattle.values.specs.Datum.{data_of}
use Rattle.part_lines.proofs.Keys.{is_less, keys-order}
use Rattle.part_lines.proofs.checks.is_key_above.Goals as goal

pub returns-in-Some : goal.returns-in-Some
returns-in-Some c =
    let test = c.is_lt.ensures ∙ ap is_lt (c.cmp.ensures ∙ keys-order c.in-Some.last.now c.args.key.now) in
    rw c.in-Some.is (record { test = test; above = λ yes. is_less (key_order (data_of c.in-Some.last.now) (data_of c.args.key.now)) (sym test ∙ yes) })
