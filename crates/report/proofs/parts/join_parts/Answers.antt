use Rattle.std.proofs.Common.{◌≡◌, ◌∙◌, [], ◌∷◌, ◌++◌, append_assoc, arith, subst, sym}
use Rattle.std.proofs.lemmas.List.{append-nil, nil_from_length}
use Rattle.std.specs.List.{flat_map}
use Rattle.std.specs.declared.result.Result.TheVariants.{Ok}
use Rattle.report_rows.specs.Parts.{AreMade, items_of}
use Rattle.report.proofs.parts.join_parts.Goals as goal

pub loop-part-preserved : goal.loop-part-preserved
loop-part-preserved g c =
    let i = c.loop-part.invariant in
    let rest = c.next.new.self.rest.items in
    let is : c.loop-part.part-iterator.rest.items ≡ Ok c.in_ok-part.part ∷ rest = c.in-Some.ensures.steps.0 ∙ (λ k. c.in_ok-part.was k ∷ rest) in
    record {
      made = λ made. i.made (subst AreMade (sym is) made);
      items = (λ k. c.in_ok-append.ensures.items k ++ flat_map items_of rest)
          ∙ append_assoc c.loop-part.whole.items c.in_ok-part.part.items (flat_map items_of rest)
          ∙ (λ k. c.loop-part.whole.items ++ flat_map items_of (sym is k)) ∙ i.items;
    }

pub loop-part-init : goal.loop-part-init
loop-part-init g c =
    let is : c.into_iter-part-iterator.result.rest.items ≡ c.args.parts.items = c.into_iter-part-iterator.ensures.into_iter_gives.0 in
    record { made = subst AreMade is; items = λ k. c.in_ok-reserve.ensures.items k ++ flat_map items_of (is k) }

pub returns : goal.returns
returns g c =
    let none : c.loop-part.part-iterator.rest.items ≡ [] = nil_from_length c.loop-part.part-iterator.rest.items (omega (arith, c.in-None.ensures.steps.0)) in
    record {
      made = c.loop-part.invariant.made (subst AreMade (sym none) tt);
      items = sym (append-nil c.loop-part.whole.items) ∙ (λ k. c.loop-part.whole.items ++ flat_map items_of (sym none k)) ∙ c.loop-part.invariant.items;
    }
