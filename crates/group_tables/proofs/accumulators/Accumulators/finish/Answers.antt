use Rattle.std.proofs.Common.{◌≡◌, ℕ, List, [], ◌∷◌, map, refl, ap, ◌∙◌}
use Rattle.group_tables.specs.declared.accumulator.Accumulator.{Accumulator}
use Rattle.group_tables.specs.Inside.Accumulator.{state_in, summary}
use Rattle.group_tables.specs.Group.{GroupState}
use Rattle.group_tables.proofs.accumulators.Accumulators.finish.Goals as goal

each-summary : (lines : ℕ) (parts : List Accumulator) → map (λ part. summary lines (state_in part)) parts ≡ map (summary lines) (map state_in parts)
each-summary lines [] = refl
each-summary lines (p ∷ parts) = ap (λ xs. summary lines (state_in p) ∷ xs) (each-summary lines parts)

pub returns-clause-cells : goal.returns-clause-cells
returns-clause-cells c = c.in_ok-cells.ensures ∙ each-summary c.self.inside.lines c.self.inside.parts.items ∙ ap (λ (h : GroupState). map (summary h.lines) h.parts) c.self.view_is
