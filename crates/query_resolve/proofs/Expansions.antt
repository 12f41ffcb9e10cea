-- Places of the columns of expanded sets.
use Rattle.std.proofs.Common.{◌≡◌, ◌∙◌, ℕ, List, [], ◌∷◌, ◌++◌, map, refl, sym, ap}
use Rattle.std.specs.Global.{Vec}
use Rattle.std.proofs.lemmas.List.{map-append}
use Rattle.std.proofs.lemmas.List.Elements.{filter_map-append}
use Rattle.semantics.specs.Columns.{Field}
use Rattle.query_ast.specs.declared.group.GroupingElement.TheVariants as variant
use Rattle.query_ast.specs.declared.group.GroupingElement.TheOpen as layer
use Rattle.query_ast.specs.declared.group.GroupingElement.TheFolds.{fold-roll-GroupingElement}
use Rattle.semantics.specs.Syntax.{GroupingElement, rollup, cube}
use Rattle.query_ast.specs.Syntax.{element_form, element_step, units_form}
use Rattle.semantics.specs.Names.{place_of, places_of}
use Rattle.semantics.specs.Sets.{cross_product, cube_sets, rollup_sets}

-- Names in front of each set, by their places.
prefixed_places : (fields : List Field) (unit : List (List ℕ)) (ss : List (List (List ℕ))) → map (places_of fields) (map (λ s. unit ++ s) ss) ≡ map (λ s. places_of fields unit ++ s) (map (places_of fields) ss)
prefixed_places fields unit [] = refl
prefixed_places fields unit (s ∷ ss) =
    ap (λ (t : List ℕ). t ∷ map (places_of fields) (map (λ s. unit ++ s) ss)) (filter_map-append (place_of fields) unit s)
    ∙ ap (λ (ts : List (List ℕ)). (places_of fields unit ++ places_of fields s) ∷ ts) (prefixed_places fields unit ss)

-- ROLLUP by places is the places of ROLLUP.
pub rollup_places : (fields : List Field) (units : List (List (List ℕ))) → map (places_of fields) (rollup_sets units) ≡ rollup_sets (map (places_of fields) units)
rollup_places fields [] = refl
rollup_places fields (unit ∷ units) =
    map-append (places_of fields) (map (λ s. unit ++ s) (rollup_sets units)) ([] ∷ [])
    ∙ ap (λ (ts : List (List ℕ)). ts ++ ([] ∷ [])) (prefixed_places fields unit (rollup_sets units) ∙ ap (map (λ s. places_of fields unit ++ s)) (rollup_places fields units))

-- CUBE by places is the places of CUBE.
pub cube_places : (fields : List Field) (units : List (List (List ℕ))) → map (places_of fields) (cube_sets units) ≡ cube_sets (map (places_of fields) units)
cube_places fields [] = refl
cube_places fields (unit ∷ units) =
    map-append (places_of fields) (map (λ s. unit ++ s) (cube_sets units)) (cube_sets units)
    ∙ ap (λ (ts : List (List ℕ)). ts ++ map (places_of fields) (cube_sets units)) (prefixed_places fields unit (cube_sets units) ∙ ap (map (λ s. places_of fields unit ++ s)) (cube_places fields units))
    ∙ ap (λ (ts : List (List ℕ)). map (λ s. places_of fields unit ++ s) (cube_sets (map (places_of fields) units)) ++ ts) (cube_places fields units)

-- A cross product by places is the places of the cross product.
pub crossed_places : (fields : List Field) (firsts seconds : List (List (List ℕ))) → map (places_of fields) (cross_product firsts seconds) ≡ cross_product (map (places_of fields) firsts) (map (places_of fields) seconds)
crossed_places fields [] seconds = refl
crossed_places fields (first ∷ firsts) seconds =
    map-append (places_of fields) (map (λ s. first ++ s) seconds) (cross_product firsts seconds)
    ∙ ap (λ (ts : List (List ℕ)). ts ++ map (places_of fields) (cross_product firsts seconds)) (prefixed_places fields first seconds)
    ∙ ap (λ (ts : List (List ℕ)). map (λ s. places_of fields first ++ s) (map (places_of fields) seconds) ++ ts) (crossed_places fields firsts seconds)

-- The form of a ROLLUP.
pub rollup_form : (v : Vec (Vec (List ℕ))) → element_form (variant.Rollup v) ≡ rollup (units_form v.items)
rollup_form v = ap element_form (sym (variant.rolls-Rollup v)) ∙ fold-roll-GroupingElement GroupingElement element_step (layer.Rollup v)

-- The form of a CUBE.
pub cube_form : (v : Vec (Vec (List ℕ))) → element_form (variant.Cube v) ≡ cube (units_form v.items)
cube_form v = ap element_form (sym (variant.rolls-Cube v)) ∙ fold-roll-GroupingElement GroupingElement element_step (layer.Cube v)
