use Rattle.std.proofs.Common.{◌∙◌, ◌++◌, List, [], ◌∷◌, ap, refl}
use Rattle.tables.specs.declared.roll.SetTable.{SetTable}
use Rattle.tables.proofs.roll.first_table.Goals as goal

pub returns : goal.returns
returns c =
    let first : SetTable = record { set = c.in_ok-set.set; table = c.args.finest; index = c.args.index } in (
      first,
      c.in_ok-set.ensures.items,
      refl,
      refl,
      c.in_ok-push.ensures.items ∙ ap (λ (tables : List SetTable). tables ++ first ∷ []) c.in_ok-tables.ensures.items,
    )
