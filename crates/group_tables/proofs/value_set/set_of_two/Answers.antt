use Rattle.std.proofs.Common.{ap, ◌∙◌}
use Rattle.std.specs.FinSet as set
use Rattle.values.specs.Datum.{datum_of}
use Rattle.group_tables.specs.Values.{Values}
use Rattle.group_tables.specs.Inside.Values.{values_in}
use Rattle.group_tables.proofs.Sets.{shown-insert}
use Rattle.group_tables.proofs.value_set.set_of_two.Goals as goal

pub returns : goal.returns
returns c =
    let first = c.args.first in
    let second = c.args.second in
    let none = c.with_hasher-values.result.keys in
    let one = c.insert.new.self.keys in
    ap (λ s. values_in s.keys) c.in_ok-both.ensures.ok
    ∙ shown-insert one c.insert-2.new.self.keys second c.in_ok-insert-2.field-0 c.in_ok-insert-2.ensures.added c.in_ok-insert-2.ensures.keys
    ∙ ap (λ (s : Values). set.insert s (datum_of second))
    (shown-insert none one first c.in_ok-insert.field-0 c.in_ok-insert.ensures.added c.in_ok-insert.ensures.keys
    ∙ ap (λ vs. set.insert (values_in vs) (datum_of first)) c.with_hasher-values.ensures.empty)
