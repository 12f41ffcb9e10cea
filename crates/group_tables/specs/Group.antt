-- What is kept of a group: the number of its records, and for each set function what its
-- accumulator keeps.
use Rattle.std.specs.Prelude.{ℕ, ◌+◌, List, ◌∷◌, length, map, refl, []}
use Rattle.std.specs.Coded.{Coded, code_by, coded×, coded_ℕ, coded_list}
use Rattle.semantics.specs.Groups.{Record}
use Rattle.semantics.specs.Aggregates.{AggregateFunction}
use Rattle.group_tables.specs.Accumulator.{AccumulatorState, accumulator_state, joint_state, coded_accumulator}

pub record GroupState : Type 0 where
  pub lines : ℕ
  pub parts : List AccumulatorState

abbrev pub coded_group : Coded GroupState
coded_group = code_by (ℕ × List AccumulatorState) (coded× coded_ℕ (coded_list coded_accumulator)) (λ h. (h.lines, h.parts)) (λ p. record { lines = p.0; parts = p.1 }) (λ _. refl)

-- What is kept of a group with these members.
abbrev pub group_state : List AggregateFunction → List Record → GroupState
group_state functions rows = record { lines = length rows; parts = map (λ f. accumulator_state f rows) functions }

-- The accumulators of two parts of a group, put together one by one.
abbrev pub joint_states : List AccumulatorState → List AccumulatorState → List AccumulatorState
joint_states [] ls = []
joint_states (k ∷ ks) [] = k ∷ ks
joint_states (k ∷ ks) (l ∷ ls) = joint_state k l ∷ joint_states ks ls

-- What is kept of two parts of a group.
abbrev pub joint_group : GroupState → GroupState → GroupState
joint_group g h = record { lines = g.lines + h.lines; parts = joint_states g.parts h.parts }
