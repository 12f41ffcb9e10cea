use Rattle.std.proofs.Common.{◌≡◌, ◌∙◌, ◌+◌, ◌<◌, ◌++◌, ◌∷◌, ℕ, List, ap, append_assoc, append-nil, drop, get_or, length, subst, sym}
use Rattle.std.specs.List.{AllByRecursion}
use Rattle.std.proofs.lemmas.List.{at_drop_all, at_drop_more}
use Rattle.values.specs.Datum.{data_of, datum_of}
use Rattle.values.specs.declared.value.Value.{Value}
use Rattle.sort_keys.specs.Codes.{IsCodable, value_code, values_code}
use Rattle.sort_keys.proofs.code.put_values.Goals as goal

-- the values that are left are the one at hand and those behind it
next-is : (values : List Value) (i : ℕ) (v : Value) → i < length values → v ≡ get_or values i v → drop i values ≡ v ∷ drop (i + 1) values
next-is values i v within is = at_drop_more (λ (vs : List Value). vs) values i v within ∙ ap (λ (w : Value). w ∷ drop (i + 1) values) (sym is)

one-more : (all front new : List ℕ) (values : List Value) (i : ℕ) (v : Value) → drop i values ≡ v ∷ drop (i + 1) values → new ≡ front ++ value_code (datum_of v) → front ++ values_code (data_of (drop i values)) ≡ all
    → new ++ values_code (data_of (drop (i + 1) values)) ≡ all
one-more all front new values i v here made so =
    let rest : List ℕ = values_code (data_of (drop (i + 1) values)) in
    ap (λ (s : List ℕ). s ++ rest) made ∙ append_assoc front (value_code (datum_of v)) rest ∙ sym (ap (λ (vs : List Value). front ++ values_code (data_of vs)) here) ∙ so

pub loop-value-preserved : goal.loop-value-preserved
loop-value-preserved c =
    let values = c.args.values.now in
    let i = c.loop-value.value-index in
    let v = c.value-item.result in
    let here = next-is values i v c.loop-value-test.true c.value-item.is in
    record {
      code = one-more _ c.loop-value.code.items c.put_value.new.code.items values i v here c.in_ok-put_value.ensures.code c.loop-value.invariant.code;
      codable = λ all. c.loop-value.invariant.codable (subst (λ (vs : List Value). AllByRecursion IsCodable (data_of vs)) (sym here) (c.in_ok-put_value.ensures.codable, all));
    }

pub returns : goal.returns
returns c =
    let values = c.args.values.now in
    let none = at_drop_all (λ (vs : List Value). vs) values c.loop-value.value-index c.loop-value-test.false in
    record {
      code = sym (append-nil c.loop-value.code.items) ∙ sym (ap (λ (vs : List Value). c.loop-value.code.items ++ values_code (data_of vs)) none) ∙ c.loop-value.invariant.code;
      codable = c.loop-value.invariant.codable (subst (λ (vs : List Value). AllByRecursion IsCodable (data_of vs)) (sym none) tt);
    }
