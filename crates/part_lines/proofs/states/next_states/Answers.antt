use Rattle.std.proofs.Common.{◌≡◌, ◌+◌, ◌++◌, ◌∷◌, [], drop, subst, take, arith}
use Rattle.std.proofs.lemmas.Result.{err_from_is_err_and}
use Rattle.std.proofs.lemmas.List.{map_push, drop_more, drop_all, take_all, take_more}
use Rattle.values.specs.GroupStates.{state_of, states_of}
use Rattle.part_lines.specs.declared.shape.StateKind.TheVariants as kind
use Rattle.part_lines.specs.Known.{AreStatesFor, IsStateFor}
use Rattle.part_lines.specs.Reading.{each_at, state_at}
use Rattle.part_lines.proofs.Facts.{AllZip-both}
use Rattle.part_lines.proofs.Loop.{each_goes_on, each_ends, each_is_done}
use Rattle.part_lines.proofs.states.next_states.Goals as goal

pub returns-in_err-state-clause-read : goal.returns-in_err-state-clause-read
returns-in_err-state-clause-read g c = λ known.
    let so_far = c.loop-kind.invariant.read known in
    let p = err_from_is_err_and c.from_residual-in_err-state.result c.from_residual-in_err-state.ensures.1 in
    let i = c.loop-kind.kind-index in
    let ks = c.args.kinds.now in
    let one = state_at c.args.members in
    rw (p.1, p.2) (each_ends one c.in_err-state.field-0.0 (states_of c.loop-kind.states.items) _ (drop i ks) (drop (i + 1) ks) (g.S.ValueReader.stream c.loop-kind.source) (each_at one ks (g.S.ValueReader.stream c.args.source.now)) (drop_more ks i _ c.loop-kind-test.true) (c.in_err-state.ensures.read so_far.0) so_far.1)

pub loop-kind-preserved : goal.loop-kind-preserved
loop-kind-preserved g c =
    let v = c.in_ok-state.state in
    let i = c.loop-kind.kind-index in
    let ks = c.args.kinds.now in
    let one = state_at c.args.members in
    let front = states_of c.loop-kind.states.items in
    let e : states_of c.push.new.self.items ≡ front ++ state_of v ∷ [] = rw c.in_ok-push.ensures.items (map_push _ c.loop-kind.states.items v) in record {
      read = λ known.
          let so_far = c.loop-kind.invariant.read known in (
            c.in_ok-state.ensures.known so_far.0,
            rw e (each_goes_on one front _ (drop i ks) (drop (i + 1) ks) (g.S.ValueReader.stream c.loop-kind.source) (state_of v) (g.S.ValueReader.stream c.next_state.new.source) (each_at one ks (g.S.ValueReader.stream c.args.source.now)) (drop_more ks i _ c.loop-kind-test.true) (c.in_ok-state.ensures.read so_far.0) so_far.1),
          );
      states = rw (e, take_more ks i kind.Rows c.loop-kind-test.true) (AllZip-both (IsStateFor c.args.members) (take i ks) front _ (state_of v) c.loop-kind.invariant.states c.in_ok-state.ensures.state);
      onward = omega (arith, c.loop-kind.invariant.onward, c.in_ok-state.ensures.onward);
    }

pub returns-clause-read : goal.returns-clause-read
returns-clause-read g c = λ known.
    let i = c.loop-kind.kind-index in
    let ks = c.args.kinds.now in
    let one = state_at c.args.members in
    each_is_done one (states_of c.loop-kind.states.items) (drop i ks) (g.S.ValueReader.stream c.loop-kind.source) (each_at one ks (g.S.ValueReader.stream c.args.source.now)) (drop_all i ks c.loop-kind-test.false) (c.loop-kind.invariant.read known).1

pub returns-clause-states : goal.returns-clause-states
returns-clause-states g c =
    subst (λ ks. AreStatesFor c.args.members ks (states_of c.loop-kind.states.items)) (take_all c.loop-kind.kind-index c.args.kinds.now c.loop-kind-test.false) c.loop-kind.invariant.states
