use Rattle.std.proofs.Common.{◌≡◌, ◌∙◌, refl, ap, sym, subst, Option, Some, None, IsSome}
use Rattle.group_tables.specs.Inside.Keys.{key_eq}
use Rattle.group_tables.specs.Keys.{key_in}
use Rattle.std.proofs.lemmas.Result.{on_ok_weaker}
use Rattle.std.specs.FinMap as fin
use Rattle.std.specs.Option.{option_copied_mut, is_some}
use Rattle.std.specs.Map.{lookup}
use Rattle.semantics.specs.Groups.{same_key}
use Rattle.group_tables.specs.Group.{GroupState}
use Rattle.group_tables.specs.Shards.{contents_in}
use Rattle.group_tables.specs.Inside.Table.{IsTaken, group_with_part}
use Rattle.group_tables.proofs.Entries.{got-by, group_with_part-by, taken-first, updated-elsewhere, elsewhere-after}
use Rattle.group_tables.proofs.shard.Shard.put.Goals as goal

pub put_to-requires : goal.put_to-requires
put_to-requires c =
    let key = key_in c.args.key.now in
    let found : fin.get (contents_in c.args.self.now) key ≡ Some c.in-Some.group.now =
    got-by c.args.self.now.groups.entries (contents_in c.args.self.now) key c.args.key.now refl refl
    ∙ sym c.get_mut.ensures.value ∙ ap option_copied_mut c.in-Some.is in
    subst (λ (o : Option GroupState). IsTaken c.args.functions.now o c.args.part) found c.requires

pub put_to-requires-2 : goal.put_to-requires-2
put_to-requires-2 c =
    let fs = c.args.functions.now in
    let key = key_in c.args.key.now in
    let absent : fin.get (contents_in c.args.self.now) key ≡ None =
    got-by c.args.self.now.groups.entries (contents_in c.args.self.now) key c.args.key.now refl refl
    ∙ sym c.get_mut.ensures.value ∙ ap option_copied_mut c.in_default.is in
    subst (λ (g : GroupState). IsTaken fs (Some g) c.args.part) (sym c.in_ok-group.ensures)
    (taken-first fs c.args.part (subst (λ (o : Option GroupState). IsTaken fs o c.args.part) absent c.requires))

pub returns-in-Some-clause-put : goal.returns-in-Some-clause-put
returns-in-Some-clause-put c =
    let fs = c.args.functions.now in
    let es = c.args.self.now.groups.entries in
    let old = contents_in c.args.self.now in
    let key = key_in c.args.key.now in
    let code = c.args.key.now in
    let new = c.put_to.new.group in
    let n = c.get_mut.follows.lender new in
    let there : IsSome (lookup (λ k. key_eq code k) es) = ap is_some (sym c.get_mut.ensures.value ∙ ap option_copied_mut c.in-Some.is) in
    let u = (c.get_mut.follows.holds new).3 there in
    let found : fin.get old key ≡ Some c.in-Some.group.now =
    got-by es old key code refl refl ∙ sym c.get_mut.ensures.value ∙ ap option_copied_mut c.in-Some.is in
    on_ok_weaker c.put_to.result
    (λ (h : new ≡ group_with_part fs (Some c.in-Some.group.now) c.args.part).
    group_with_part-by fs c.args.part es n.entries old key code new refl refl u.1 u.3
    (h ∙ ap (λ o. group_with_part fs o c.args.part) (sym found)))
    c.put_to.ensures

pub returns-in-Some-clause-others : goal.returns-in-Some-clause-others
returns-in-Some-clause-others c = λ k e.
    let es = c.args.self.now.groups.entries in
    let code = c.args.key.now in
    let new = c.put_to.new.group in
    let n = c.get_mut.follows.lender new in
    let there : IsSome (lookup (λ k. key_eq code k) es) = ap is_some (sym c.get_mut.ensures.value ∙ ap option_copied_mut c.in-Some.is) in
    let u = (c.get_mut.follows.holds new).3 there in
    updated-elsewhere es n.entries code (Some new) u.1 u.3 k e

pub returns-clause-put : goal.returns-clause-put
returns-clause-put c =
    let fs = c.args.functions.now in
    let es = c.args.self.now.groups.entries in
    let old = contents_in c.args.self.now in
    let key = key_in c.args.key.now in
    let new = c.put_to-2.new.group in
    let u = c.in_ok-insert.ensures.updates in
    let absent : fin.get old key ≡ None =
    got-by es old key c.args.key.now refl refl ∙ sym c.get_mut.ensures.value ∙ ap option_copied_mut c.in_default.is in
    let others = rw (c.get_mut.follows.holds-at-none) at u.3 in
    group_with_part-by fs c.args.part es c.insert.new.self.entries old key c.in_ok-key.key new refl c.in_ok-key.ensures u.1 others
    (c.in_ok-put_to.ensures ∙ ap (λ (g : GroupState). group_with_part fs (Some g) c.args.part) c.in_ok-group.ensures ∙ ap (λ o. group_with_part fs o c.args.part) (sym absent))

pub returns-clause-others : goal.returns-clause-others
returns-clause-others c = λ k e.
    elsewhere-after c.insert.result c.args.self.now.groups.entries _ c.insert.new.self.entries c.in_ok-key.key (Some c.put_to-2.new.group)
    (ap (λ n. n.entries) c.get_mut.follows.holds-at-none)
    (on_ok_weaker c.insert.result (λ u. (u.1, u.3)) c.insert.ensures.updates)
    c.insert.ensures.err k (ap (same_key k) c.in_ok-key.ensures ∙ e)
