use Rattle.std.proofs.Common.{◌≡◌, Vec, Global, [], ◌∷◌, sym, ap, ◌∙◌}
use Rattle.std.proofs.lemmas.Result.{IfOk-weaker}
use Rattle.values.specs.Datum.{data_of}
use Rattle.values.specs.declared.value.Value.{Value}
use Rattle.group_tables.specs.Entries.{ascending_values}
use Rattle.group_tables.specs.Inside.ValueSets.{shown}
use Rattle.group_tables.proofs.SetListing.{none-listed, one-listed}
use Rattle.group_tables.proofs.value_set.ValueSet.into_values.Goals as goal

pub returns-in-Empty : goal.returns-in-Empty
returns-in-Empty c = rw c.in-Empty.is (ap data_of c.new.ensures.items ∙ none-listed)

pub returns-in-One : goal.returns-in-One
returns-in-One c =
    IfOk-weaker c.list_of_one.result _ _
    (λ (values : Vec Value Global) (are : values.items ≡ c.into_inner.result ∷ []).
    ap data_of are ∙ ap (λ value. data_of (value ∷ [])) c.into_inner.ensures ∙ one-listed c.in-One.value.value
    ∙ ap (λ values. ascending_values (shown values)) (sym c.in-One.is))
    c.list_of_one.ensures
