-- A group put to a result that can hold it.
use Rattle.std.proofs.Common.{◌+◌, ℕ, None, Some, Result, Ok, Err, arith}
use Rattle.std.specs.Prelude.{IfOk}
use Rattle.values.specs.GroupStates.{entry_of}
use Rattle.values.specs.declared.group_entry.GroupEntry.{GroupEntry}
use Rattle.query_plan.specs.Planned.{PlannedQuery}
use Rattle.tables.specs.Contents.{DiffersInGroups, HasMembersWithin, IsTypedEntryUnder}
use Rattle.tables.specs.Sound.{IsSoundUnder}
use Rattle.tables.specs.States.{PartialState}
use Rattle.parts.specs.Inside.Gathering.{CanHold}

pub put-holds : {E : Type 0} (plan : PlannedQuery) (partial : PartialState) (group : GroupEntry) (left : ℕ) (r : Result PartialState E) → CanHold plan partial (Some group) left
    → IfOk r (λ next. (most : ℕ) → HasMembersWithin most partial → HasMembersWithin (most + group.members) next)
    → IfOk r (λ next. (p : PlannedQuery) → IsSoundUnder p partial → IsTypedEntryUnder p (entry_of group) → IsSoundUnder p next) → IfOk r (DiffersInGroups partial) → IfOk r (λ next. CanHold plan next None left)
put-holds plan partial group left (Err e) can within sound others = tt
put-holds plan partial group left (Ok next) can within sound others =
    let room = can.room in
    let lines = others.lines in
    record {
      sound = sound plan can.sound can.is_next.typed;
      is_next = tt;
      members = can.members + group.members;
      within = within can.members can.within;
      room = omega (arith, room, lines);
    }
