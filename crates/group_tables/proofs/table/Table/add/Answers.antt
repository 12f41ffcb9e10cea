use Rattle.std.proofs.lemmas.Result.{on_ok_weaker}
use Rattle.values.specs.Datum.{data_of}
use Rattle.semantics.specs.Groups.{Key, project}
use Rattle.group_tables.specs.Inside.Table.{IsAdded}
use Rattle.group_tables.proofs.Meaning.{table-added, table-takes}
use Rattle.group_tables.proofs.table.Table.add.Goals as goal

pub put-requires : goal.put-requires
put-requires c =
    let set = c.args.set.now in
    (c.requires.narrow, table-takes set c.args.functions.now c.args.self.now c.requires.room (project set (data_of c.args.row.now)))

pub returns : goal.returns
returns c =
    let set = c.args.set.now in
    let fs = c.args.functions.now in
    let row = data_of c.args.row.now in
    let old = c.args.self.now in
    let new = c.put.new.self in
    let marks = c.args.marks.now in
    record {
      added = on_ok_weaker c.put.result
          (λ (h : (k : Key) → IsAdded fs marks old new (project set row) row k). table-added set fs marks old new row h)
          c.put.ensures;
    }
