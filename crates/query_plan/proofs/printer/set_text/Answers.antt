use Rattle.std.proofs.Common.{◌≡◌, ◌<◌, ◌∙◌, ℕ, List, Some, option_map, get_or, slice_get, length, string_bytes, arith, ap, sym}
use Rattle.std.proofs.lemmas.List.{get_or-map, length-map}
use Rattle.std.proofs.lemmas.Option.{slice_get-get_or}
use Rattle.std.proofs.lemmas.Result.{IfOk-weaker}
use Rattle.std.specs.Global.{Vec}
use Rattle.query_resolve.specs.Resolution.{contents}
use Rattle.semantics.specs.Sets.{sets_of}
use Rattle.semantics.specs.Canonical.{set_text}
use Rattle.query_plan.proofs.printer.set_text.Goals as goal

-- the set at a place of the list, apart from where it lies in memory
contents_at : (sets : List (Vec ℕ)) (i : ℕ) (set : Vec ℕ) → i < length sets → set ≡ get_or sets i set → slice_get (contents sets) i ≡ Some set.items
contents_at sets i set within is =
    slice_get-get_or (contents sets) i set.items (let n = length-map sets (λ (s : Vec ℕ). s.items) in omega (arith, within, n))
    ∙ ap Some (get_or-map (λ (s : Vec ℕ). s.items) sets i set set.items within ∙ ap (λ (s : Vec ℕ). s.items) (sym is))

pub returns : goal.returns
returns c =
    let fields = c.args.plan.now.fields in
    let all = sets_of fields c.args.plan.now.query in
    let same : contents c.sets.result.now ≡ all = c.sets.ensures.sets in
    let within : c.args.set < length c.sets.result.now =
    let n = length-map c.sets.result.now (λ (s : Vec ℕ). s.items) in let e = ap length same in omega (arith, c.requires, n, e) in
    let here : slice_get all c.args.set ≡ Some c.index-sets-set.result.items =
    ap (λ sets. slice_get sets c.args.set) (sym same) ∙ contents_at c.sets.result.now c.args.set c.index-sets-set.result within c.index-sets-set.is in
    record {
      text = IfOk-weaker c.set_text.result
          (λ text. string_bytes text ≡ set_text c.schema.result.now c.deref.result.now)
          (λ text. Some (string_bytes text) ≡ option_map (set_text fields) (slice_get all c.args.set))
          (λ text h. ap Some (h ∙ ap (set_text c.schema.result.now) c.deref.ensures.value ∙ ap (λ f. set_text f c.index-sets-set.result.items) c.schema.ensures.schema) ∙ sym (ap (option_map (set_text fields)) here))
          c.set_text.ensures;
    }
