use Rattle.std.proofs.Common.{◌≡◌, ◌+◌, ◌<◌, ◌^◌, ◌++◌, All, map, refl, sym, ap, subst, ◌∙◌, sum_by, arith}
use Rattle.std.proofs.lemmas.List.Sums.{sum_by-append}
use Rattle.std.proofs.lemmas.List.{map-append}
use Rattle.std.proofs.lemmas.List.Elements.{All-append}
use Rattle.semantics.specs.Lists.{sorted_by}
use Rattle.group_tables.specs.Table.{IsCounted}
use Rattle.group_tables.proofs.Sorting.{sum_by-in_order}
use Rattle.tables.specs.Laws.{notes-same}
use Rattle.tables.specs.Notes.{IsWellNumbered, line_count, note_in, note_order, notes_in}
use Rattle.tables.specs.Partials.{both}
use Rattle.tables.specs.States.{PartialState}
use Rattle.tables.specs.contracts.partial.Partial as partial
use Rattle.tables.proofs.Merging.{counted-append}
use Rattle.tables.proofs.Sound.{counted-both, counted-can_join}
use Rattle.tables.proofs.Standing.{both-from}
use Rattle.tables.proofs.partial.Partial.merge_by.Goals as goal

pub merge_tables-requires-clause-mergeable : goal.merge_tables-requires-clause-mergeable
merge_tables-requires-clause-mergeable g c =
    let a = c.self.inside in
    let b = c.other.inside in
    let functions : a.shape.functions.items ≡ b.shape.functions.items =
    ap (λ (v : PartialState). v.functions) c.self.view_is ∙ c.requires.one_shape.functions ∙ sym (ap (λ (v : PartialState). v.functions) c.other.view_is) in
    let first : a.lines ≡ c.args.self.lines = ap (λ (v : PartialState). v.lines) c.self.view_is in
    let second : b.lines ≡ c.args.other.lines = ap (λ (v : PartialState). v.lines) c.other.view_is in
    let few : a.lines + b.lines < 2 ^ 63 = omega (arith, first, second, c.requires.few) in
    counted-can_join a.shape.functions.items b.shape.functions.items a.lines b.lines a.table b.table functions a.within b.within few

pub invariant_of-result : goal.invariant_of-result
invariant_of-result g c =
    let a = c.self.inside in
    let b = c.other.inside in
    let functions : a.shape.functions.items ≡ b.shape.functions.items =
    ap (λ (v : PartialState). v.functions) c.self.view_is ∙ c.requires.one_shape.functions ∙ sym (ap (λ (v : PartialState). v.functions) c.other.view_is) in
    let first : a.lines ≡ c.args.self.lines = ap (λ (v : PartialState). v.lines) c.self.view_is in
    let second : b.lines ≡ c.args.other.lines = ap (λ (v : PartialState). v.lines) c.other.view_is in
    let joined : notes_in c.append.new.self ≡ notes_in a.notes ++ notes_in b.notes = ap (map note_in) c.in_ok-append.ensures.items ∙ map-append note_in a.notes.items b.notes.items in (
      omega (arith, first, second, c.requires.few),
      (
        (let x = a.fewer in let y = b.fewer in omega (arith, x, y)),
        (
          subst (IsCounted (a.lines + b.lines) a.shape.functions.items) (sym c.in_ok-merged.ensures.merged)
              (counted-both a.shape.functions.items b.shape.functions.items a.lines b.lines a.table b.table functions a.within b.within),
          (
            ap line_count joined ∙ counted-append (notes_in a.notes) (notes_in b.notes) a.lines b.lines a.counted b.counted,
            (subst (All IsWellNumbered) (sym joined) (All-append IsWellNumbered (notes_in a.notes) (notes_in b.notes) a.numbered b.numbered), tt),
          ),
        ),
      ),
    )

pub returns : goal.returns
returns g c =
    let a = c.self.inside in
    let b = c.other.inside in
    let joined : notes_in c.append.new.self ≡ notes_in a.notes ++ notes_in b.notes = ap (map note_in) c.in_ok-append.ensures.items ∙ map-append note_in a.notes.items b.notes.items in
    both-from (partial.the_view a) (partial.the_view b) _ refl refl refl c.in_ok-merged.ensures.merged refl refl
    (notes-same (notes_in c.append.new.self) (sorted_by note_order (notes_in a.notes) ++ sorted_by note_order (notes_in b.notes)) (λ w.
    let all = ap (sum_by w) joined in
    let apart = sum_by-append w (notes_in a.notes) (notes_in b.notes) in
    let both = sum_by-append w (sorted_by note_order (notes_in a.notes)) (sorted_by note_order (notes_in b.notes)) in
    let first = sum_by-in_order note_order w (notes_in a.notes) in
    let second = sum_by-in_order note_order w (notes_in b.notes) in
    omega (arith, all, apart, both, first, second)))
    ∙ (λ i. both (c.self.view_is i) (c.other.view_is i))
