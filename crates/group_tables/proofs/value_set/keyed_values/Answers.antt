use Rattle.std.proofs.Common.{◌≡◌, ◌++◌, ◌∷◌, [], ℕ, List, append-nil, map, ap, sym, subst, ◌∙◌}
use Rattle.std.proofs.lemmas.Map.Iter.{rest_all, rest_more}
use Rattle.std.specs.List.{AllByRecursion}
use Rattle.sort_keys.specs.Codes.{IsCodable, value_code}
use Rattle.sort_keys.specs.SortKeys.{parts_of}
use Rattle.values.specs.Datum.{data_of, datum_of}
use Rattle.values.specs.declared.value.Value.{Value}
use Rattle.group_tables.specs.declared.key_order.Keyed.{Keyed}
use Rattle.group_tables.specs.Inside.Keyed.{keyed_datum, keyed_value}
use Rattle.group_tables.proofs.Moved.{one-more}
use Rattle.group_tables.proofs.Sets.{data-distinct}
use Rattle.group_tables.proofs.value_set.keyed_values.Goals as goal

pub loop-thing-preserved : goal.loop-thing-preserved
loop-thing-preserved c =
    let rest = c.next.new.self in
    let thing = c.in-Some.thing in
    let is : c.loop-thing.thing-iterator ≡ thing ∷ rest = rest_more (λ (x : Value). x) c.loop-thing.thing-iterator rest c.next.result thing c.in-Some.is c.next.ensures.steps in
    let keyed : Keyed Value = record { key = c.in_ok-key.key; thing = thing } in
    let code : c.as_slice.result.now ≡ value_code (datum_of thing) = c.as_slice.ensures.value ∙ c.in_ok-put_value.ensures.code ∙ ap (λ (s : List ℕ). s ++ value_code (datum_of thing)) c.clear.ensures.items in
    let is_keyed : keyed_value keyed ≡ keyed_datum (datum_of thing) = λ i. ((c.in_ok-key.ensures ∙ ap parts_of code) i, datum_of thing) in
    record {
      values = ap (λ (ks : List (Keyed Value)). map keyed_value ks ++ map keyed_datum (data_of rest)) c.in_ok-push.ensures.items
          ∙ one-more keyed_value keyed_datum c.loop-thing.keyed.items keyed (datum_of thing) (data_of rest) is_keyed
          ∙ ap (λ (vs : List Value). map keyed_value c.loop-thing.keyed.items ++ map keyed_datum (data_of vs)) (sym is)
          ∙ c.loop-thing.invariant.values;
      codable = λ left. c.loop-thing.invariant.codable
          (subst (λ (vs : List Value). AllByRecursion IsCodable (data_of vs)) (sym is) (c.in_ok-put_value.ensures.codable, left));
    }

pub returns : goal.returns
returns c =
    let none : c.loop-thing.thing-iterator ≡ [] = rest_all (λ (x : Value). x) c.loop-thing.thing-iterator c.next.new.self c.next.result c.in-None.is c.next.ensures.steps in
    record {
      values = sym (append-nil (map keyed_value c.loop-thing.keyed.items))
          ∙ ap (λ (vs : List Value). map keyed_value c.loop-thing.keyed.items ++ map keyed_datum (data_of vs)) (sym none)
          ∙ c.loop-thing.invariant.values;
      codable = c.loop-thing.invariant.codable (subst (λ (vs : List Value). AllByRecursion IsCodable (data_of vs)) (sym none) tt);
      distinct = data-distinct c.args.values.keys c.len.ensures.unique;
    }
