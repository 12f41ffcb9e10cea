use Rattle.std.proofs.Common.{map, ap, sym, ◌∙◌}
use Rattle.std.proofs.lemmas.Simd.{map-map}
use Rattle.group_tables.specs.Inside.Accumulator.{state_in}
use Rattle.group_tables.specs.Entries.{plain_state}
use Rattle.group_tables.specs.Group.{GroupState}
use Rattle.group_tables.proofs.accumulators.Accumulators.into_states.Goals as goal

pub returns-clause-states : goal.returns-clause-states
returns-clause-states c =
    c.in_ok-states.ensures ∙ sym (map-map plain_state state_in c.self.inside.parts.items) ∙ ap (λ (group : GroupState). map plain_state group.parts) c.self.view_is
