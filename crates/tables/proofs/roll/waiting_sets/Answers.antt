use Rattle.std.proofs.Common.{◌≡◌, ◌≢◌, ◌<◌, ◌+◌, ◌++◌, ◌∷◌, ◌∙◌, [], All, List, Vec, Global, ℕ, None, Some, refl, sym, ap, subst, arith}
use Rattle.std.proofs.lemmas.List.{map_push}
use Rattle.std.proofs.lemmas.List.Elements.{All-push}
use Rattle.std.proofs.lemmas.List.Sorted.{All-permutation, IsPermutation-map, IsPermutation-sym}
use Rattle.tables.specs.declared.roll.Roll.{Roll}
use Rattle.tables.specs.Inside.SetTables.{ListedSet, NoneHasIndex, StandsAtIndex, listed_roll, sets_of_rolls}
use Rattle.tables.proofs.SetTables.{all-first, all-more, last-index, same-option, stands-new}
use Rattle.tables.proofs.roll.waiting_sets.Goals as goal
use Rattle.tables.proofs.roll.waiting_sets.Goals.{then-ne+in_ok-set+in_ok-push, else-ne}

pub loop-index-preserved : goal.loop-index-preserved
loop-index-preserved c =
    let sets = c.args.sets.now in
    let made = c.args.made in
    let index = c.loop-index.index in
    let old = c.loop-index.waiting.items in
    let before = c.loop-index.invariant in
    let P : ListedSet → Type 0 = StandsAtIndex sets in
    elim c.if-ne.branch [
      | then-ne+in_ok-set+in_ok-push w ↦
          let roll : Roll = record { set = w.in_ok-set.set; index = index; table = None } in
          let item = w.index-sets-index in
          let more : sets_of_rolls c.if-ne.waiting.items ≡ sets_of_rolls old ++ listed_roll roll ∷ [] =
          ap (λ (v : Vec Roll Global). sets_of_rolls v.items) w.waiting-is ∙ ap sets_of_rolls w.in_ok-push.ensures.items ∙ map_push listed_roll old roll in
          record {
            listed = subst (All P) (sym more)
                (All-push P (sets_of_rolls old) (listed_roll roll) before.listed
                (stands-new sets item.result roll c.loop-index-test.true item.is (w.in_ok-set.ensures.items ∙ w.as_slice.ensures.value)));
            all = subst (λ (news : List ListedSet). (i : ℕ) → i < index + 1 → NoneHasIndex i news → made ≡ Some i) (sym more)
                (all-more made index (sets_of_rolls old) (sets_of_rolls old ++ listed_roll roll ∷ []) before.all
                (λ i none. all-first (λ (set : ListedSet). set.0 ≢ Some i) (sets_of_rolls old) (listed_roll roll ∷ []) none)
                (λ none. absurd (last-index index index (sets_of_rolls old) roll.set.items none refl)));
          }
      | else-ne w ↦
          let same : sets_of_rolls c.if-ne.waiting.items ≡ sets_of_rolls old = ap (λ (v : Vec Roll Global). sets_of_rolls v.items) w.waiting-is in
          record {
            listed = subst (All P) (sym same) before.listed;
            all = subst (λ (news : List ListedSet). (i : ℕ) → i < index + 1 → NoneHasIndex i news → made ≡ Some i) (sym same)
                (all-more made index (sets_of_rolls old) (sets_of_rolls old) before.all (λ i none. none) (λ none. same-option made index (sym w.if-ne.false ∙ c.ne.ensures)));
          }
    ]

pub returns-clause-listed : goal.returns-clause-listed
returns-clause-listed c =
    let old = c.loop-index.waiting.items in
    let new = c.sort_unstable_by_key.new.self.items in
    All-permutation (StandsAtIndex c.args.sets.now) (sets_of_rolls old) (sets_of_rolls new) (IsPermutation-map listed_roll old new c.sort_unstable_by_key.ensures.permutation) c.loop-index.invariant.listed

pub returns-clause-all : goal.returns-clause-all
returns-clause-all c = λ index within none.
    let old = c.loop-index.waiting.items in
    let new = c.sort_unstable_by_key.new.self.items in
    let moved = IsPermutation-map listed_roll old new c.sort_unstable_by_key.ensures.permutation in
    c.loop-index.invariant.all index (omega (arith, within, c.loop-index-test.false))
    (All-permutation (λ (set : ListedSet). set.0 ≢ Some index) (sets_of_rolls new) (sets_of_rolls old) (IsPermutation-sym (sets_of_rolls old) (sets_of_rolls new) moved) none)
