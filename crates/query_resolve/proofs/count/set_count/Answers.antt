use Rattle.std.proofs.Common.{◌≡◌, ◌∙◌, ◌+◌, ◌*◌, ℕ, List, ◌∷◌, length, drop, map, min, sym, ap, arith}
use Rattle.std.proofs.lemmas.List.{at_drop_all, at_drop_more}
use Rattle.query_ast.specs.declared.group.GroupingElement.{GroupingElement}
use Rattle.query_ast.specs.Syntax.{element_form}
use Rattle.semantics.specs.Sets.{expansion, group_sets}
use Rattle.query_resolve.proofs.Counts.{count_turn}
use Rattle.query_resolve.proofs.count.set_count.Goals as goal

-- The sets that elements stand for, counted.
abbrev count_of : List GroupingElement → ℕ
count_of groups = length (expansion (map element_form groups))

pub loop-group-init : goal.loop-group-init
loop-group-init c = (omega arith, omega arith)

pub loop-group-preserved : goal.loop-group-preserved
loop-group-preserved c =
    let most : ℕ = 18446744073709551615 in
    let groups = c.args.groups.now in
    let i = c.loop-group.group-index in
    let seconds = expansion (map element_form (drop (i + 1) groups)) in (
      c.saturating_mul-count.type_inv,
      count_turn (group_sets (element_form c.group-item.result)) seconds c.loop-group.count c.count_group.result c.saturating_mul-count.result most c.count_group.ensures c.saturating_mul-count.ensures
          ∙ ap (λ (n : ℕ). min (c.loop-group.count * n) most) (sym (at_drop_more count_of groups i c.group-item.result c.loop-group-test.true ∙ ap (λ (g : GroupingElement). count_of (g ∷ drop (i + 1) groups)) (sym c.group-item.is)))
          ∙ c.loop-group.invariant.1,
    )

pub returns : goal.returns
returns c =
    let most : ℕ = 18446744073709551615 in
    let none : count_of (drop c.loop-group.group-index c.args.groups.now) ≡ 1 = at_drop_all count_of c.args.groups.now c.loop-group.group-index c.loop-group-test.false in
    let within = c.loop-group.invariant.0 in
    let one : c.loop-group.count ≡ min (c.loop-group.count * 1) most = omega arith in
    one ∙ ap (λ (n : ℕ). min (c.loop-group.count * n) most) (sym none) ∙ c.loop-group.invariant.1
