-- A name is among those in GROUP BY exactly where its place is one of a grouping column.
use Rattle.std.proofs.Common.{◌≡◌, ◌∙◌, ◌==◌, ℕ, Bool, true, false, ◌||◌, List, [], ◌∷◌, get_or, Option, Some, None, refl, sym, ap, arith}
use Rattle.std.specs.List.{cons_option, list_any}
use Rattle.std.specs.Str.{bytes_eq}
use Rattle.std.proofs.lemmas.Bool.Decides.{nat_tests}
use Rattle.std.proofs.lemmas.List.Quantifiers.{position-Some}
use Rattle.std.proofs.lemmas.Slice.Eq.{bytes_eq-Decides}
use Rattle.semantics.specs.Columns.{Field, names_of}
use Rattle.semantics.specs.Syntax.{Query}
use Rattle.semantics.specs.Names.{place_of, places_of}
use Rattle.semantics.specs.Sets.{grouping_names, grouping_places}
use Rattle.query_resolve.proofs.Distinct.{any_distinct, same_place}
use Rattle.query_resolve.proofs.DistinctSets.{both_ways}

-- A name stands at its place.
name_at : (fields : List Field) (n : List ℕ) (place : ℕ) → place_of fields n ≡ Some place → n ≡ get_or (names_of fields) place []
name_at fields n place at =
    (bytes_eq-Decides n (get_or (names_of fields) place [])).0 (position-Some (bytes_eq n) (names_of fields) place [] at).1

-- Names at one place are equal.
one_name : (fields : List Field) (n m : List ℕ) (place : ℕ) → place_of fields n ≡ Some place → place_of fields m ≡ Some place → bytes_eq n m ≡ true
one_name fields n m place at also = (bytes_eq-Decides n m).1 (name_at fields n place at ∙ sym (name_at fields m place also))

-- What an option holds is at a place exactly where the name whose place it is, is the one that
-- stands there.
one_place : (fields : List Field) (n m : List ℕ) (place : ℕ) (o : Option ℕ) (places : List ℕ) → place_of fields n ≡ Some place → place_of fields m ≡ o → list_any (λ g. g == place) (cons_option o places) ≡ (bytes_eq n m || list_any (λ g. g == place) places)
one_place fields n m place None places at also =
    elim (bytes_eq n m) as (λ (t : Bool). bytes_eq n m ≡ t → list_any (λ g. g == place) places ≡ (t || list_any (λ g. g == place) places)) [
      | true ↦ λ e. let none : None ≡ Some place = sym also ∙ ap (place_of fields) (sym ((bytes_eq-Decides n m).0 e)) ∙ at in let clash : ⊥ = cc in absurd clash
      | false ↦ λ _. refl
    ] refl
one_place fields n m place (Some q) places at also =
    ap (λ (t : Bool). t || list_any (λ g. g == place) places)
    (both_ways (q == place) (bytes_eq n m)
    (λ same. one_name fields n m place at (also ∙ ap Some (same_place q place same)))
    (λ same.
    let one : Some q ≡ Some place = sym also ∙ ap (place_of fields) (sym ((bytes_eq-Decides n m).0 same)) ∙ at in
    let e : q ≡ place = cc in
    grind (arith, nat_tests)))

-- A place is among those of names exactly where its name is among them.
among_names : (fields : List Field) (n : List ℕ) (place : ℕ) → place_of fields n ≡ Some place → (ns : List (List ℕ)) → list_any (λ g. g == place) (places_of fields ns) ≡ list_any (bytes_eq n) ns
among_names fields n place at [] = refl
among_names fields n place at (m ∷ ms) =
    one_place fields n m place (place_of fields m) (places_of fields ms) at refl
    ∙ ap (λ (t : Bool). bytes_eq n m || t) (among_names fields n place at ms)

-- A place is one of a grouping column exactly where its name is among those in GROUP BY.
pub among_groups : (fields : List Field) (t : Query) (n : List ℕ) (place : ℕ) → place_of fields n ≡ Some place → list_any (λ g. g == place) (grouping_places fields t) ≡ list_any (bytes_eq n) (grouping_names t)
among_groups fields t n place at =
    any_distinct (λ a b. a == b) (λ a b e. grind (arith, nat_tests)) place (places_of fields (grouping_names t))
    ∙ among_names fields n place at (grouping_names t)
