-- Sets, units and groups spell their tokens.
use Rattle.std.proofs.Common.{ℕ, zero, suc, List, [], ◌∷◌, map}
use Rattle.std.specs.Prelude.{codes}
use Rattle.semantics.specs.declared.token.Token.TheVariants as tokens
use Rattle.semantics.specs.declared.token.Word.TheVariants as w
use Rattle.semantics.specs.Words.{name_text}
use Rattle.semantics.specs.Syntax.{GroupingElement, GroupingElements, set, rollup, cube, sets, no_groups, group, element_forms}
use Rattle.semantics.specs.Canonical.{comma_list, in_brackets, unit_text, group_text, group_texts}
use Rattle.query.proofs.Good.{Each, Inhabited, GoodName, GoodUnit, GoodSet, GoodGroup, GoodGroups, GoodElement}
use Rattle.query.proofs.Onto.{name_onto, unit_onto, units_onto, group_onto, group_ontos}
use Rattle.query.proofs.Goes.{Free, Goes, AllGo, free_free, free_goes, goes_of, nothing_goes, word_free, brackets_free, commas_go, each_goes}
use Rattle.query.proofs.GoesExpressions.{name_goes}

-- ---- sets and units

set_goes : (ns : List (List ℕ)) → GoodSet ns → Goes (unit_text ns) (unit_onto ns)
set_goes [] g = goes_of (brackets_free nothing_goes)
set_goes (n ∷ []) g = name_goes n g.0
set_goes (n ∷ m ∷ ns) g =
    let names = each_goes GoodName name_text name_onto name_goes (n ∷ m ∷ ns) g in
    goes_of (brackets_free (commas_go (map name_text (n ∷ m ∷ ns)) (map name_onto (n ∷ m ∷ ns)) names))

unit_goes : (ns : List (List ℕ)) → GoodUnit ns → Goes (unit_text ns) (unit_onto ns)
unit_goes [] g = absurd g
unit_goes (n ∷ ns) g = set_goes (n ∷ ns) g

units_go : (us : List (List (List ℕ))) → Inhabited GoodUnit us → Goes (in_brackets (comma_list (map unit_text us))) (units_onto us)
units_go [] g = absurd g
units_go (u ∷ us) g =
    let units = each_goes GoodUnit unit_text unit_onto unit_goes (u ∷ us) g in
    goes_of (brackets_free (commas_go (map unit_text (u ∷ us)) (map unit_onto (u ∷ us)) units))

-- ---- groups

sets_free : Free (codes "GROUPING SETS ") (λ ks. tokens.Word w.Grouping ∷ tokens.Word w.Sets ∷ ks)
sets_free = free_free (word_free w.Grouping) (word_free w.Sets)

mutual
  group_goes : (x : GroupingElement) (n : ℕ) → GoodGroup x n → Goes (group_text x) (group_onto x)
  group_goes (set ns) n g = set_goes ns g
  group_goes (rollup us) n g = free_goes (word_free w.Rollup) (units_go us g)
  group_goes (cube us) n g = free_goes (word_free w.Cube) (units_go us g)
  group_goes (sets gs) zero g = absurd g.1
  group_goes (sets gs) (suc n) g = free_goes sets_free (goes_of (brackets_free (commas_go (group_texts gs) (group_ontos gs) (inner_go gs n g.1))))

  inner_go : (gs : GroupingElements) (n : ℕ) → GoodGroups gs n → AllGo (group_texts gs) (group_ontos gs)
  inner_go no_groups n g = tt
  inner_go (group x gs) n g = (group_goes x n g.0, inner_go gs n g.1)

pub groups_go : (gs : List GroupingElement) → Each GoodElement gs → AllGo (group_texts (element_forms gs)) (map group_onto gs)
groups_go [] g = tt
groups_go (x ∷ gs) g = (group_goes x 16 g.0, groups_go gs g.1)
