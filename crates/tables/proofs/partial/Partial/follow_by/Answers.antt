use Rattle.std.proofs.Common.{◌≡◌, ◌+◌, ◌<◌, ◌≤◌, ◌^◌, [], ◌∷◌, ◌++◌, List, All, map, refl, sym, ap, subst, ◌∙◌, arith}
use Rattle.semantics.specs.Lists.{sorted_by}
use Rattle.group_tables.specs.Table.{IsCounted, both_tables}
use Rattle.tables.specs.Notes.{note_in, note_order, notes_in}
use Rattle.tables.specs.Partials.{HasOwnIndexes, concatenation, note_of_one}
use Rattle.tables.specs.declared.piece_refusals.PieceRefusals.{PieceRefusals}
use Rattle.tables.specs.States.{PartialState}
use Rattle.tables.specs.contracts.partial.Partial as partial
use Rattle.tables.proofs.Following.{behind-within, lines-within}
use Rattle.tables.proofs.Merging.{one-note}
use Rattle.tables.proofs.NotesInOrder.{lines-own}
use Rattle.tables.proofs.Sound.{counted-both, counted-can_join}
use Rattle.tables.proofs.Standing.{concatenation-from}
use Rattle.tables.proofs.partial.Partial.follow_by.Goals as goal

pub merge_tables-requires-clause-mergeable : goal.merge_tables-requires-clause-mergeable
merge_tables-requires-clause-mergeable g c =
    let a = c.self.inside in
    let b = c.rest.inside in
    let functions : a.shape.functions.items ≡ b.shape.functions.items =
    ap (λ (v : PartialState). v.functions) c.self.view_is ∙ c.requires.one_shape.functions ∙ sym (ap (λ (v : PartialState). v.functions) c.rest.view_is) in
    let first : a.lines ≡ c.args.self.lines = ap (λ (v : PartialState). v.lines) c.self.view_is in
    let second : b.lines ≡ c.args.rest.lines = ap (λ (v : PartialState). v.lines) c.rest.view_is in
    let few : a.lines + b.lines < 2 ^ 63 = omega (arith, first, second, c.requires.few) in
    counted-can_join a.shape.functions.items b.shape.functions.items a.lines b.lines a.table b.table functions a.within b.within few

pub gather-requires-clause-few : goal.gather-requires-clause-few
gather-requires-clause-few g c = let a = c.self.inside in let counted = a.counted in let few = a.few in omega (arith, counted, few)

pub gather-requires-clause-numbered : goal.gather-requires-clause-numbered
gather-requires-clause-numbered g c = c.self.inside.numbered

pub gather_behind-requires-clause-few : goal.gather_behind-requires-clause-few
gather_behind-requires-clause-few g c =
    let a = c.self.inside in
    let b = c.rest.inside in
    let counted = b.counted in
    let first : a.lines ≡ c.args.self.lines = ap (λ (v : PartialState). v.lines) c.self.view_is in
    let second : b.lines ≡ c.args.rest.lines = ap (λ (v : PartialState). v.lines) c.rest.view_is in
    omega (arith, first, second, counted, c.requires.few)

pub gather_behind-requires-clause-numbered : goal.gather_behind-requires-clause-numbered
gather_behind-requires-clause-numbered g c = c.rest.inside.numbered

pub invariant_of-result : goal.invariant_of-result
invariant_of-result g c =
    let a = c.self.inside in
    let b = c.rest.inside in
    let functions : a.shape.functions.items ≡ b.shape.functions.items =
    ap (λ (v : PartialState). v.functions) c.self.view_is ∙ c.requires.one_shape.functions ∙ sym (ap (λ (v : PartialState). v.functions) c.rest.view_is) in
    let first : a.lines ≡ c.args.self.lines = ap (λ (v : PartialState). v.lines) c.self.view_is in
    let second : b.lines ≡ c.args.rest.lines = ap (λ (v : PartialState). v.lines) c.rest.view_is in
    let found = c.in_ok-gathered.gathered in
    let low : All (λ line. line.0 ≤ a.lines) found = subst (λ n. All (λ line. line.0 ≤ n) found) a.counted (lines-within (notes_in a.notes) found a.numbered c.in_ok-gathered.ensures) in
    let all = c.gather_behind.new.gathered in
    let within : All (λ line. line.0 ≤ a.lines + b.lines) all = subst (λ n. All (λ line. line.0 ≤ a.lines + n) all) b.counted (behind-within a.lines _ (notes_in b.notes) found all b.numbered low c.in_ok-gather_behind.ensures (omega arith)) in
    let notes = one-note c.in_ok-notes.notes.items _ c.in_ok-notes.ensures within in (
      omega (arith, first, second, c.requires.few),
      (
        (let x = a.fewer in let y = b.fewer in omega (arith, x, y)),
        (
          subst (IsCounted (a.lines + b.lines) a.shape.functions.items) (sym c.in_ok-merged.ensures.merged)
              (counted-both a.shape.functions.items b.shape.functions.items a.lines b.lines a.table b.table functions a.within b.within),
          (
            notes.0,
            (notes.1, tt),
          ),
        ),
      ),
    )

pub returns-clause-stands : goal.returns-clause-stands
returns-clause-stands g c = λ own others.
    let a = c.self.inside in
    let b = c.rest.inside in
    let first = lines-own (notes_in a.notes) c.in_ok-gathered.gathered (subst (λ (v : PartialState). HasOwnIndexes v) (sym c.self.view_is) own) c.in_ok-gathered.ensures in
    let behind = c.in_ok-gather_behind.ensures in
    let second = lines-own (notes_in b.notes) behind.lines (subst (λ (v : PartialState). HasOwnIndexes v) (sym c.rest.view_is) others) behind.of_notes in
    concatenation-from (partial.the_view a) (partial.the_view b) _ refl refl refl c.in_ok-merged.ensures.merged refl refl
    (ap (λ (ns : List PieceRefusals). sorted_by note_order (map note_in ns)) c.in_ok-notes.ensures
    ∙ ap (λ found. note_of_one (a.lines + b.lines) found ∷ []) (behind.behind ∙ (λ i. first i ++ map (λ line. (a.lines + line.0, line.1)) (second i))))
    ∙ (λ i. concatenation (c.self.view_is i) (c.rest.view_is i))

pub returns-clause-groups : goal.returns-clause-groups
returns-clause-groups g c =
    let a = c.self.view_is in
    let b = c.rest.view_is in
    record {
      shape = record {
        sets = sym (ap (λ (v : PartialState). v.sets) a);
        functions = sym (ap (λ (v : PartialState). v.functions) a);
        filters = sym (ap (λ (v : PartialState). v.filters) a);
      };
      table = c.in_ok-merged.ensures.merged ∙ (λ i. both_tables (a i).table (b i).table);
      lines = λ i. (a i).lines + (b i).lines;
      refused = λ i. (a i).refused + (b i).refused;
    }
