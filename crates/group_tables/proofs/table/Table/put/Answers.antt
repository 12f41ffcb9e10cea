use Rattle.std.proofs.Common.{sym, subst, Option}
use Rattle.std.proofs.lemmas.Result.{on_ok_weaker}
use Rattle.std.specs.FinMap as fin
use Rattle.semantics.specs.Groups.{Key}
use Rattle.group_tables.specs.Keys.{key_in}
use Rattle.group_tables.specs.Group.{GroupState}
use Rattle.group_tables.specs.Table.{Contents}
use Rattle.group_tables.specs.Inside.Table.{IsTaken, IsWithPart}
use Rattle.group_tables.proofs.table.Table.put.Goals as goal

pub put_by_key-requires : goal.put_by_key-requires
put_by_key-requires c =
    subst (λ (o : Option GroupState). IsTaken c.args.functions.now o c.args.part)
    ((λ i. fin.get (sym c.take_scratch.ensures i) (sym c.in_ok-key.ensures i)))
    c.requires

pub returns : goal.returns
returns c =
    let fs = c.args.functions.now in
    let part = c.args.part in
    on_ok_weaker c.put_by_key.result
    (λ (h : (k : Key) → IsWithPart fs c.take_scratch.new.self c.put_by_key.new.self (key_in c.in_ok-key.key) part k). λ (k : Key).
    subst (λ (q : Key). IsWithPart fs c.args.self.now c.put_by_key.new.self q part k) c.in_ok-key.ensures
    (subst (λ (t : Contents). IsWithPart fs t c.put_by_key.new.self (key_in c.in_ok-key.key) part k) c.take_scratch.ensures (h k)))
    c.put_by_key.ensures
