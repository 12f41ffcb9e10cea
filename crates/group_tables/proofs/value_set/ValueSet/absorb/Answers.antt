use Rattle.std.proofs.Common.{◌≡◌, ◌∙◌}
use Rattle.std.proofs.lemmas.Result.{on_ok_weaker}
use Rattle.std.specs.FinSet as set
use Rattle.group_tables.specs.Inside.ValueSets.{shown}
use Rattle.group_tables.proofs.Sets.{union-flip}
use Rattle.group_tables.proofs.value_set.ValueSet.absorb.Goals as goal

pub returns-then-len : goal.returns-then-len
returns-then-len c =
    let swapped = c.replace-smaller in
    on_ok_weaker c.insert_all.result
    (λ (h : shown c.insert_all.new.self ≡ set.union (shown swapped.new.dest) (shown swapped.result)).
    h ∙ (λ i. set.union (shown (swapped.ensures.after i)) (shown (swapped.ensures.value i)))
    ∙ union-flip (shown c.args.other) (shown c.args.self.now))
    c.insert_all.ensures
