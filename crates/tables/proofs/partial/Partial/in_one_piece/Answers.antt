use Rattle.std.proofs.Common.{◌≤◌, All, refl, sym, ap, subst, ◌∙◌, arith}
use Rattle.semantics.specs.Lists.{sorted_by}
use Rattle.tables.specs.Notes.{note_order, notes_in}
use Rattle.tables.specs.Partials.{HasOwnIndexes, as_one, notes_of_one}
use Rattle.tables.specs.States.{PartialState}
use Rattle.tables.specs.contracts.partial.Partial as partial
use Rattle.tables.proofs.Following.{lines-within, one-in_order, one-sound}
use Rattle.tables.proofs.NotesInOrder.{lines-own}
use Rattle.tables.proofs.Standing.{one-from}
use Rattle.tables.proofs.partial.Partial.in_one_piece.Goals as goal

pub gather-requires-clause-few : goal.gather-requires-clause-few
gather-requires-clause-few c = let counted = c.self.inside.counted in let few = c.self.inside.few in omega (arith, counted, few)

pub gather-requires-clause-numbered : goal.gather-requires-clause-numbered
gather-requires-clause-numbered c = c.self.inside.numbered

pub invariant_of-result : goal.invariant_of-result
invariant_of-result c =
    let self = c.self.inside in
    let found = c.in_ok-gathered.gathered in
    let low : All (λ line. line.0 ≤ self.lines) found = subst (λ n. All (λ line. line.0 ≤ n) found) self.counted (lines-within (notes_in self.notes) found self.numbered c.in_ok-gathered.ensures) in
    let notes = one-sound self.lines found (notes_in c.in_ok-notes.notes) low c.in_ok-notes.ensures in
    (self.few, (self.fewer, (self.within, (notes.0, (notes.1, tt)))))

pub returns-clause-stands : goal.returns-clause-stands
returns-clause-stands c = λ own.
    let self = c.self.inside in
    let found = lines-own (notes_in self.notes) c.in_ok-gathered.gathered (subst (λ (v : PartialState). HasOwnIndexes v) (sym c.self.view_is) own) c.in_ok-gathered.ensures in
    one-from (partial.the_view self) _ refl refl refl refl refl refl
    (ap (sorted_by note_order) c.in_ok-notes.ensures ∙ one-in_order self.lines c.in_ok-gathered.gathered ∙ ap (notes_of_one self.lines) found)
    ∙ ap as_one c.self.view_is

pub returns-clause-groups : goal.returns-clause-groups
returns-clause-groups c =
    let view = c.self.view_is in
    record {
      shape = record {
        sets = sym (ap (λ (v : PartialState). v.sets) view);
        functions = sym (ap (λ (v : PartialState). v.functions) view);
        filters = sym (ap (λ (v : PartialState). v.filters) view);
      };
      table = ap (λ (v : PartialState). v.table) view;
      lines = ap (λ (v : PartialState). v.lines) view;
      refused = ap (λ (v : PartialState). v.refused) view;
    }
