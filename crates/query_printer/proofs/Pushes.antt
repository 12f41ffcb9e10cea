-- What is written at the end of a text.
use Rattle.std.proofs.Common.{◌≡◌, ◌∙◌, ◌<◌, ◌++◌, ◌∷◌, [], List, ℕ, map, length, Result, Ok, Err, OnOk, refl, arith, Some, None, string_bytes, sym, ap, zero, suc, false}
use Rattle.std.specs.Prelude.{◌==◌, if◌then◌else◌, slice_get, is_ok, Vec}
use Rattle.std.specs.Global.{Global}
use Rattle.std.proofs.lemmas.Option.{slice_get-map}
use Rattle.values.specs.declared.schema.Column.{Column}
use Rattle.values.specs.Schema.{fields_of}
use Rattle.query_ast.specs.declared.group.GroupingElement.{GroupingElement}
use Rattle.query_ast.specs.declared.group.GroupingElement.TheVariants as variant
use Rattle.query_ast.specs.declared.group.GroupingElement.TheOpen as layer
use Rattle.query_ast.specs.declared.group.GroupingElement.TheFolds.{fold-roll-GroupingElement}
use Rattle.semantics.specs.Syntax as syntax
use Rattle.semantics.specs.Syntax.{element_forms, sets}
use Rattle.query_ast.specs.Syntax.{element_form, element_step}
use Rattle.semantics.specs.Canonical.{comma_list, group_texts, list_clause, name_at}

-- A last push that went well ends the text.
pub pushed : {E : Type 0} (r : Result (Unit {0}) E) (new old text total : List ℕ) → new ≡ (if is_ok r then old ++ text else old) → old ++ text ≡ total → OnOk r (new ≡ total)
pushed (Ok u) new old text total n e = n ∙ e
pushed (Err x) new old text total n e = tt

-- What a call wrote that went well, and what that comes to.
pub written : {E : Type 0} (r : Result (Unit {0}) E) (new now total : List ℕ) → OnOk r (new ≡ now) → now ≡ total → OnOk r (new ≡ total)
written (Ok u) new now total h e = h ∙ e
written (Err x) new now total h e = tt

-- A number that is not 0 is above it.
pub above_zero : (n : ℕ) → (n == 0) ≡ false → 0 < n
above_zero zero h = absurd cc
above_zero (suc n) h = omega arith

-- The form of GROUPING SETS.
pub sets_form : (v : Vec GroupingElement Global) → element_form (variant.Sets v) ≡ sets (element_forms (map element_form v.items))
sets_form v = ap element_form (sym (variant.rolls-Sets v)) ∙ fold-roll-GroupingElement syntax.GroupingElement element_step (layer.Sets v)

-- A clause of groups, one at least, is its keywords and its list.
pub group_clause : (keywords : List ℕ) (groups : List GroupingElement) → 0 < length groups → list_clause keywords (group_texts (element_forms (map element_form groups))) ≡ keywords ++ comma_list (group_texts (element_forms (map element_form groups)))
group_clause keywords [] some = absurd (omega arith)
group_clause keywords (g ∷ gs) some = refl

-- The name of a column that is there.
pub name_there : (columns : List Column) (place : ℕ) (x : Column) → slice_get columns place ≡ Some x → name_at (fields_of columns) place ≡ string_bytes x.name
name_there columns place x h = rw (slice_get-map, slice_get-map, h) refl

-- Past the last column there is no name.
pub name_past : (columns : List Column) (place : ℕ) → slice_get columns place ≡ None → name_at (fields_of columns) place ≡ []
name_past columns place h = rw (slice_get-map, slice_get-map, h) refl
