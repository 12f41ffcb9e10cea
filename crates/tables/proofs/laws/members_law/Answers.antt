use Rattle.tables.proofs.Members.{each-record-once}
use Rattle.tables.proofs.laws.members_law.Goals as goal

pub returns : goal.returns
returns c = λ plan groups rows given.
    each-record-once (record { members = c.members_law.ensures.members; lines = c.members_law.ensures.lines }) plan rows groups.found given
