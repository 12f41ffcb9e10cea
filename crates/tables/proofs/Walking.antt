-- The walk over the tables of grouping sets: each set waits for its table, has one that is there,
-- or has its groups.
use Rattle.std.proofs.Common.{◌≡◌, ◌≢◌, ◌==◌, ◌⊎◌, ◌<◌, ◌+◌, ℕ, suc, Option, Some, None, true, false, inl, inr, List, [], ◌∷◌, ◌++◌, All, Vec, Global, length, slice_index_or, refl, sym, ap, subst, ◌∙◌, arith, append_assoc}
use Rattle.std.proofs.lemmas.List.{length-append, length-map, map-append, map_push}
use Rattle.std.proofs.lemmas.List.Elements.{All-head, All-push}
use Rattle.std.proofs.lemmas.List.Sorted.{All-permutation, IsPermutation-append_comm, IsPermutation-append_left, IsPermutation-append_right, IsPermutation-map, IsPermutation-sym, IsPermutation-trans, length_permutation}
use Rattle.std.proofs.lemmas.Option.{none-some, same_Some}
use Rattle.std.specs.List.{AllZip}
use Rattle.std.specs.List.Sorted.{IsPermutation}
use Rattle.query_resolve.specs.Resolution.{contents}
use Rattle.query_resolve.specs.declared.function.FilteredFunction.{FilteredFunction}
use Rattle.group_tables.specs.declared.group.Group.{Group}
use Rattle.group_tables.specs.Rolled.{AreAmong}
use Rattle.group_tables.specs.Table.{Contents}
use Rattle.tables.specs.declared.roll.Roll.{Roll}
use Rattle.tables.specs.declared.roll.SetTable.{SetTable}
use Rattle.tables.specs.Inside.Properties.{AreGroupsOf, AreGroupsWith, HasProperty, Property}
use Rattle.tables.specs.Inside.SetTables.{AreRollsOf, HasFiner, HasGroupsOf, HaveFiner, HaveProperty, KeepsOthers, ListedSet, NoneHasIndex, StandsAtIndex, listed_roll, listed_table, sets_of_rolls, sets_of_tables}
use Rattle.tables.proofs.SetTables.{WaitsOn, all-first, all-from_contents, all-last, all-second, all-unmap}

-- ---- what rolling out of one table leaves

-- no set is lost, and none comes
pub sets-moved : (waiting rolls left : List Roll) (tables rolled : List SetTable) → IsPermutation waiting (rolls ++ left) → IsPermutation (sets_of_rolls rolls) (sets_of_tables rolled)
    → IsPermutation (sets_of_rolls waiting ++ sets_of_tables tables) (sets_of_rolls left ++ sets_of_tables (tables ++ rolled))
sets-moved waiting rolls left tables rolled split made =
    let W : List ListedSet = sets_of_rolls waiting in
    let R : List ListedSet = sets_of_rolls rolls in
    let L : List ListedSet = sets_of_rolls left in
    let T : List ListedSet = sets_of_tables tables in
    let M : List ListedSet = sets_of_tables rolled in
    let apart : IsPermutation W (L ++ R) =
    IsPermutation-trans W (R ++ L) (L ++ R)
    (subst (IsPermutation W) (map-append listed_roll rolls left) (IsPermutation-map listed_roll waiting (rolls ++ left) split))
    (IsPermutation-append_comm R L) in
    let behind : IsPermutation (R ++ T) (T ++ M) =
    IsPermutation-trans (R ++ T) (T ++ R) (T ++ M) (IsPermutation-append_comm R T) (IsPermutation-append_right T R M made) in
    subst (λ (sets : List ListedSet). IsPermutation (W ++ T) (L ++ sets)) (sym (map-append listed_table tables rolled))
    (IsPermutation-trans (W ++ T) (L ++ (R ++ T)) (L ++ (T ++ M))
    (subst (IsPermutation (W ++ T)) (append_assoc L R T) (IsPermutation-append_left T W (L ++ R) apart))
    (IsPermutation-append_right L (R ++ T) (T ++ M) behind))

-- each set that waits on has a finer one among the tables that are left
pub finer-left : (finer : SetTable) (waiting rolls left : List Roll) (tables rolled : List SetTable) → IsPermutation waiting (rolls ++ left)
    → IsPermutation (sets_of_rolls rolls) (sets_of_tables rolled) → All (WaitsOn finer.set.items rolls) left
    → HaveFiner waiting (sets_of_tables (tables ++ finer ∷ [])) → HaveFiner left (sets_of_tables (tables ++ rolled))
finer-left finer waiting rolls left tables rolled split made waits had = λ k d l none.
    let set = (slice_index_or left k d).set.items in
    let Q : ListedSet → Type 0 = λ other. AreAmong set other.1 → ⊥ in
    let P : Roll → Type 0 = λ roll. HasFiner roll.set.items (sets_of_tables (tables ++ finer ∷ [])) in
    let T : List ListedSet = sets_of_tables tables in
    let M : List ListedSet = sets_of_tables rolled in
    let both : All Q (T ++ M) = subst (All Q) (map-append listed_table tables rolled) none in
    let in_rolls : All Q (sets_of_rolls rolls) = All-permutation Q M (sets_of_rolls rolls) (IsPermutation-sym (sets_of_rolls rolls) M made) (all-second Q T M both) in
    all-second P rolls left (All-permutation P waiting (rolls ++ left) split had) k d l
    (subst (All Q) (sym (map_push listed_table tables finer)) (All-push Q T (listed_table finer) (all-first Q T M both) (λ among. waits k d l among in_rolls)))

-- so there are as many as before
pub count-moved : (waiting left : List Roll) (tables more : List SetTable) → IsPermutation (sets_of_rolls waiting ++ sets_of_tables tables) (sets_of_rolls left ++ sets_of_tables more)
    → length left + length more ≡ length waiting + length tables
count-moved waiting left tables more moved =
    let e = length_permutation (sets_of_rolls waiting ++ sets_of_tables tables) (sets_of_rolls left ++ sets_of_tables more) moved in
    omega (
      arith,
      e,
      length-append (sets_of_rolls waiting) (sets_of_tables tables),
      length-append (sets_of_rolls left) (sets_of_tables more),
      length-map waiting listed_roll,
      length-map left listed_roll,
      length-map tables listed_table,
      length-map more listed_table,
    )

-- ---- the walk

-- for the set at an index there are its groups
abbrev pub HasGroupsAt : List ℕ → List FilteredFunction → Contents → List (Vec ℕ Global) → List (Vec Group Global) → ℕ → Type 0
HasGroupsAt grouping functions finest sets groups index =
    (property : Property) (set : Vec ℕ Global) (of_set : Vec Group Global) → HasProperty property grouping functions finest
    → AreGroupsWith property functions (slice_index_or sets index set).items (slice_index_or groups index of_set).items

-- How far the walk has come. The tables that are left are of the records; each set that waits has a
-- finer one among theirs; each set that neither waits nor has a table has its groups.
pub record IsUnderWay (grouping : List ℕ) (functions : List FilteredFunction) (finest : Contents) (sets : List (Vec ℕ Global)) (waiting : List Roll) (tables : List SetTable) (groups : List (Vec Group Global)) : Type 0 where
  pub tables_are : AreRollsOf grouping functions finest tables
  pub finer : HaveFiner waiting (sets_of_tables tables)
  pub listed : All (StandsAtIndex sets) (sets_of_rolls waiting ++ sets_of_tables tables)
  pub count : length groups ≡ length sets
  pub done : (index : ℕ) → index < length sets → NoneHasIndex index (sets_of_rolls waiting ++ sets_of_tables tables) → HasGroupsAt grouping functions finest sets groups index

-- ---- how it begins

-- a set that stands in a list of sets of grouping columns has such columns
listed-among : (grouping : List ℕ) (sets : List (Vec ℕ Global)) (roll : Roll) → All (λ set. AreAmong set grouping) (contents sets) → StandsAtIndex sets (listed_roll roll)
    → AreAmong roll.set.items grouping
listed-among grouping sets roll among stands =
    let P : List ℕ → Type 0 = λ set. AreAmong set grouping in
    let at = stands roll.index roll.set refl in
    subst P at.1 (all-from_contents P sets among roll.index roll.set at.0)

pub walk-first : (grouping : List ℕ) (functions : List FilteredFunction) (finest : Contents) (sets : List (Vec ℕ Global)) (waiting : List Roll) (tables : List SetTable)
    (groups : List (Vec Group Global)) (index : Option ℕ) (first : SetTable)
    → All (λ set. AreAmong set grouping) (contents sets) → StandsAtIndex sets (index, grouping)
    → All (StandsAtIndex sets) (sets_of_rolls waiting) → ((i : ℕ) → i < length sets → NoneHasIndex i (sets_of_rolls waiting) → index ≡ Some i)
    → first.set.items ≡ grouping → first.index ≡ index → first.table ≡ finest → tables ≡ first ∷ [] → length groups ≡ length sets
    → IsUnderWay grouping functions finest sets waiting tables groups
walk-first grouping functions finest sets waiting tables groups index first among stands listed all set at table only count =
    let Q : ListedSet → Type 0 = StandsAtIndex sets in
    let same : listed_table first ≡ (index, grouping) = cc in
    let T : sets_of_tables tables ≡ listed_table first ∷ [] = ap sets_of_tables only in
    record {
      tables_are = λ property h.
          let P : SetTable → Type 0 = λ t. HasProperty property t.set.items functions t.table in
          let of_first : P first = subst (λ (s : List ℕ). HasProperty property s functions first.table) (sym set) (subst (HasProperty property grouping functions) (sym table) h) in
          subst (All P) (sym only) (All-push P [] first (λ k d l. absurd (omega (arith, l))) of_first);
      finer = λ k d l none.
          let roll = slice_index_or waiting k d in
          let R : ListedSet → Type 0 = λ other. AreAmong roll.set.items other.1 → ⊥ in
          All-head R (listed_table first) [] (subst (All R) T none)
          (subst (AreAmong roll.set.items) (sym set) (listed-among grouping sets roll among (all-unmap Q listed_roll waiting listed k d l)));
      listed = subst (λ (ts : List ListedSet). All Q (sets_of_rolls waiting ++ ts)) (sym T) (All-push Q (sets_of_rolls waiting) (listed_table first) listed (subst Q (sym same) stands));
      count = count;
      done = λ i within none.
          let R : ListedSet → Type 0 = λ s. s.0 ≢ Some i in
          let apart : All R (sets_of_rolls waiting ++ listed_table first ∷ []) = subst (λ (ts : List ListedSet). All R (sets_of_rolls waiting ++ ts)) T none in
          absurd (all-last R (sets_of_rolls waiting) (listed_table first) apart (at ∙ all i within (all-first R (sets_of_rolls waiting) (listed_table first ∷ []) apart)));
    }

-- ---- how it goes on

is-index : (o : Option ℕ) (index : ℕ) → (o ≡ Some index) ⊎ (o ≢ Some index)
is-index None index = inr (λ e. none-some index e)
is-index (Some i) index = elim (i == index) as (λ b. (i == index) ≡ b → (Some i ≡ Some index) ⊎ (Some i ≢ Some index)) [
  | true ↦ λ e. inl (let same : i ≡ index = grind (arith, e) in ap Some same)
  | false ↦ λ e. inr (λ is. let same : i ≡ index = same_Some i index is in absurd (grind (arith, e, same)))
] refl

-- the table that is taken off is that of the last of all sets
popped : (waiting : List Roll) (tables : List SetTable) (finer : SetTable)
    → sets_of_rolls waiting ++ sets_of_tables (tables ++ finer ∷ []) ≡ (sets_of_rolls waiting ++ sets_of_tables tables) ++ listed_table finer ∷ []
popped waiting tables finer =
    ap (λ (sets : List ListedSet). sets_of_rolls waiting ++ sets) (map_push listed_table tables finer)
    ∙ sym (append_assoc (sets_of_rolls waiting) (sets_of_tables tables) (listed_table finer ∷ []))

module _ (grouping : List ℕ) (functions : List FilteredFunction) (finest : Contents) (sets : List (Vec ℕ Global)) (waiting : List Roll) (tables : List SetTable)
    (finer : SetTable) (groups : List (Vec Group Global)) (before : IsUnderWay grouping functions finest sets waiting (tables ++ finer ∷ []) groups) where
  -- the table that is taken off is of the records
  pub next-is : (property : Property) → HasProperty property grouping functions finest → HasProperty property finer.set.items functions finer.table
  next-is property h =
      let P : SetTable → Type 0 = λ t. HasProperty property t.set.items functions t.table in
      all-last P tables finer (before.tables_are property h)

  -- its set stands where its index says
  pub next-stands : StandsAtIndex sets (listed_table finer)
  next-stands =
      let Q : ListedSet → Type 0 = StandsAtIndex sets in
      all-last Q (sets_of_rolls waiting ++ sets_of_tables tables) (listed_table finer) (subst (All Q) (popped waiting tables finer) before.listed)

  pub walk-next : (left : List Roll) (more : List SetTable) (new : List (Vec Group Global))
      → IsPermutation (sets_of_rolls waiting ++ sets_of_tables tables) (sets_of_rolls left ++ sets_of_tables more)
      → (HaveFiner waiting (sets_of_tables (tables ++ finer ∷ [])) → HaveFiner left (sets_of_tables more))
      → ((property : Property) → HasProperty property finer.set.items functions finer.table → HaveProperty property functions tables → HaveProperty property functions more)
      → length new ≡ length groups
      → KeepsOthers finer groups new → HasGroupsOf finer new
      → IsUnderWay grouping functions finest sets left more new
  walk-next left more new moved finer_left kept count others finished =
      let all = sets_of_rolls waiting ++ sets_of_tables tables in
      let rest = sets_of_rolls left ++ sets_of_tables more in
      let Q : ListedSet → Type 0 = StandsAtIndex sets in
      record {
        tables_are = λ property h.
            let P : SetTable → Type 0 = λ t. HasProperty property t.set.items functions t.table in
            kept property (next-is property h) (all-first P tables (finer ∷ []) (before.tables_are property h));
        finer = finer_left before.finer;
        listed = All-permutation Q all rest moved (all-first Q all (listed_table finer ∷ []) (subst (All Q) (popped waiting tables finer) before.listed));
        count = count ∙ before.count;
        done = λ index within none.
            let R : ListedSet → Type 0 = λ s. s.0 ≢ Some index in
            elim (is-index finer.index index) [
              | inl is ↦ λ property set of_set h.
                  subst (λ (s : List ℕ). AreGroupsWith property functions s (slice_index_or new index of_set).items) (sym (next-stands index set is).1)
                  (finished index of_set property functions is (next-is property h))
              | inr differs ↦ λ property set of_set h.
                  subst (λ (gs : Vec Group Global). AreGroupsWith property functions (slice_index_or sets index set).items gs.items) (sym (others index of_set differs))
                  (before.done index within (subst (All R) (sym (popped waiting tables finer)) (All-push R all (listed_table finer) (All-permutation R rest all (IsPermutation-sym all rest moved) none) differs)) property set of_set h)
            ];
      }

-- ---- how it ends

each-zipped : {A B : Type 0} (R : A → B → Type 0) (xs : List A) (ys : List B) → length ys ≡ length xs
    → ((i : ℕ) (x : A) (y : B) → i < length xs → R (slice_index_or xs i x) (slice_index_or ys i y)) → AllZip R xs ys
each-zipped R [] [] n h = tt
each-zipped R [] (y ∷ ys) n h = absurd (omega (arith, n))
each-zipped R (x ∷ xs) [] n h = absurd (omega (arith, n))
each-zipped R (x ∷ xs) (y ∷ ys) n h = (h 0 x y (omega arith), each-zipped R xs ys (omega (arith, n)) (λ i a b l. h (suc i) a b (omega (arith, l))))

zipped-contents : (R : List ℕ → Vec Group Global → Type 0) (sets : List (Vec ℕ Global)) (groups : List (Vec Group Global)) → AllZip (λ (set : Vec ℕ Global). R set.items) sets groups
    → AllZip R (contents sets) groups
zipped-contents R [] [] h = tt
zipped-contents R [] (g ∷ gs) h = h
zipped-contents R (s ∷ ss) [] h = h
zipped-contents R (s ∷ ss) (g ∷ gs) h = (h.0, zipped-contents R ss gs h.1)

-- where no table is left, no set waits
pub none-waits : (waiting : List Roll) (tables : List SetTable) (index : ℕ) → tables ≡ [] → HaveFiner waiting (sets_of_tables tables) → NoneHasIndex index (sets_of_rolls waiting ++ sets_of_tables tables)
none-waits [] tables index none finer = subst (λ (ts : List SetTable). NoneHasIndex index (sets_of_tables ts)) (sym none) (λ k d l. absurd (omega (arith, l)))
none-waits (roll ∷ rolls) tables index none finer =
    absurd (subst (λ (ts : List SetTable). HasFiner roll.set.items (sets_of_tables ts)) none (finer 0 roll (omega arith)) (λ k d l. absurd (omega (arith, l))))

pub walk-all : (grouping : List ℕ) (functions : List FilteredFunction) (finest : Contents) (sets : List (Vec ℕ Global)) (waiting : List Roll) (tables : List SetTable)
    (groups : List (Vec Group Global)) → tables ≡ [] → IsUnderWay grouping functions finest sets waiting tables groups
    → (property : Property) → HasProperty property grouping functions finest → AreGroupsOf property functions (contents sets) groups
walk-all grouping functions finest sets waiting tables groups none walk property h =
    zipped-contents (λ set (of_set : Vec Group Global). AreGroupsWith property functions set of_set.items) sets groups
    (each-zipped (λ (set : Vec ℕ Global) (of_set : Vec Group Global). AreGroupsWith property functions set.items of_set.items) sets groups walk.count (λ index set of_set within. walk.done index within (none-waits waiting tables index none walk.finer) property set of_set h))
