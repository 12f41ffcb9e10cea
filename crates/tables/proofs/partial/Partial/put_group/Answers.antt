use Rattle.std.proofs.Common.{◌≡◌, ◌+◌, ◌++◌, List, [], ◌∷◌, ap, subst, sym, ◌∙◌, arith}
use Rattle.values.specs.GroupStates.{entry_of}
use Rattle.query_resolve.specs.declared.function.FilteredFunction.{FilteredFunction}
use Rattle.semantics.specs.Sets.{grouping_places}
use Rattle.group_tables.specs.Entries.{CountsEntry, IsBehind, IsEntryFor, TypesEntry}
use Rattle.values.specs.Datum.{data_of}
use Rattle.tables.specs.Contents.{HasMembersWithin, groups_in}
use Rattle.tables.specs.Sound.{IsSoundUnder}
use Rattle.tables.specs.States.{PartialState}
use Rattle.tables.proofs.Sound.{counted-more}
use Rattle.tables.proofs.partial.Partial.put_group.Goals as goal

pub put_entry-requires-clause-behind : goal.put_entry-requires-clause-behind
put_entry-requires-clause-behind c =
    subst (λ (v : PartialState). IsBehind (data_of c.args.group.key.items) (groups_in v)) (sym c.self.view_is) c.requires.behind

pub put_entry-requires-clause-states : goal.put_entry-requires-clause-states
put_entry-requires-clause-states c =
    subst (λ (fs : List FilteredFunction). IsEntryFor fs (entry_of c.args.group)) (sym c.as_slice.ensures.value)
    (subst (λ (v : PartialState). IsEntryFor v.functions (entry_of c.args.group)) (sym c.self.view_is) c.requires.states)

pub invariant_of-result : goal.invariant_of-result
invariant_of-result c =
    let self = c.self.inside in
    let group = entry_of c.args.group in
    let new = c.put_entry.new.self in
    let room = c.requires.room in
    let same : self.lines ≡ c.args.self.lines = ap (λ (v : PartialState). v.lines) c.self.view_is in
    let before = subst (HasMembersWithin room.0) (sym c.self.view_is) room.1 in
    let counts = subst (λ (fs : List FilteredFunction). CountsEntry fs group self.table new) c.as_slice.ensures.value c.in_ok-put_entry.ensures.counted in
    let many = room.2 in (
      self.few,
      (
        self.fewer,
        (
          counted-more self.shape.functions.items (room.0 + group.members) self.lines new (omega (arith, many, same)) (counts room.0 before),
          (
            self.counted,
            (self.numbered, tt),
          ),
        ),
      ),
    )

pub returns-clause-groups : goal.returns-clause-groups
returns-clause-groups c =
    c.in_ok-put_entry.ensures.entries ∙ ap (λ (v : PartialState). groups_in v ++ entry_of c.args.group ∷ []) c.self.view_is

pub returns-clause-within : goal.returns-clause-within
returns-clause-within c = λ most given.
    let self = c.self.inside in
    let counts = subst (λ (fs : List FilteredFunction). CountsEntry fs (entry_of c.args.group) self.table c.put_entry.new.self) c.as_slice.ensures.value c.in_ok-put_entry.ensures.counted in
    counts most (subst (HasMembersWithin most) (sym c.self.view_is) given)

pub returns-clause-sound : goal.returns-clause-sound
returns-clause-sound c = λ plan given typed.
    let self = c.self.inside in
    let group = entry_of c.args.group in
    let new = c.put_entry.new.self in
    let p = subst (IsSoundUnder plan) (sym c.self.view_is) given in
    let functions = c.as_slice.ensures.value ∙ p.functions in
    let types = subst (λ (fs : List FilteredFunction). TypesEntry fs group self.table new) functions c.in_ok-put_entry.ensures.typed in
    record {
      sets = p.sets;
      functions = p.functions;
      filters = p.filters;
      typed = types plan.fields (grouping_places plan.fields plan.query) p.typed typed;
    }

pub returns-clause-others : goal.returns-clause-others
returns-clause-others c =
    let view = sym c.self.view_is in
    record {
      shape = record {
        sets = ap (λ (v : PartialState). v.sets) view;
        functions = ap (λ (v : PartialState). v.functions) view;
        filters = ap (λ (v : PartialState). v.filters) view;
      };
      lines = ap (λ (v : PartialState). v.lines) c.self.view_is;
      refused = ap (λ (v : PartialState). v.refused) c.self.view_is;
      notes = ap (λ (v : PartialState). v.notes) c.self.view_is;
    }
