-- What a partial result has of pieces that it stands for, part by part.
use Rattle.std.proofs.Common.{[], ◌∷◌, ◌≡◌, ◌+◌, ◌++◌, List, length, map, refl, sym, ap, subst, ◌∙◌, sum_by}
use Rattle.std.proofs.Math.Logic.{∥∥₁_map₂}
use Rattle.std.specs.Coded.{Coded-set}
use Rattle.semantics.specs.Conditions.{kept_records}
use Rattle.semantics.specs.ResultRows.{aggregate_functions}
use Rattle.semantics.specs.Lists.{sorted_by}
use Rattle.semantics.specs.Sets.{grouping_places, sets_of}
use Rattle.query_plan.specs.Planned.{PlannedQuery}
use Rattle.query_resolve.specs.Functions.{indexed_functions}
use Rattle.group_tables.specs.Bags.{SameBag}
use Rattle.group_tables.specs.Table.{Contents, IsTableOf, both_tables}
use Rattle.group_tables.proofs.GroupsLaw.{table-is, table_of-is}
use Rattle.group_tables.proofs.Sorting.{sum_by-in_order}
use Rattle.tables.specs.Functions.{filter_texts}
use Rattle.tables.specs.Laws.{notes-same, pieces-append}
use Rattle.tables.specs.Notes.{Noted, note_of, note_order}
use Rattle.tables.specs.Partials.{IsPartialOf, StandsFor, as_one, both, concatenation, note_of_one, notes_of_one, numbered_lines, of_piece}
use Rattle.tables.specs.Pieces.{IndexedPiece, all_lines, records_of, refused_lines_within}
use Rattle.tables.specs.States.{PartialState}
use Rattle.tables.specs.contracts.partial.Partial as partial

-- the table is that of the pieces' records, the numbers are those of their lines, and the notes, in
-- whatever order, are those of the pieces
pub record Has (plan : PlannedQuery) (partial : PartialState) (listed : List Noted) (pieces : List IndexedPiece) : Type 0 where
  pub sets : partial.sets ≡ sets_of plan.fields plan.query
  pub functions : partial.functions ≡ indexed_functions plan.fields plan.query
  pub filters : partial.filters ≡ filter_texts plan
  pub table : IsTableOf (grouping_places plan.fields plan.query) (aggregate_functions plan.fields plan.query) partial.table
      (kept_records plan.fields plan.query (records_of plan.fields pieces))
  pub lines : partial.lines ≡ length (all_lines pieces)
  pub refused : partial.refused ≡ length (refused_lines_within plan.fields pieces)
  pub notes : SameBag (map (note_of plan.fields) pieces) listed

-- what has all this stands for the pieces
pub stands-from : (plan : PlannedQuery) (partial : PartialState) (notes : List Noted) (pieces : List IndexedPiece)
    → partial.notes ≡ sorted_by note_order notes → Has plan partial notes pieces → StandsFor plan partial pieces
stands-from plan partial notes pieces ordered has =
    let table = table-is (grouping_places plan.fields plan.query) (aggregate_functions plan.fields plan.query) partial.table
    (kept_records plan.fields plan.query (records_of plan.fields pieces)) has.table in
    let noted = ordered ∙ sym (notes-same (map (note_of plan.fields) pieces) notes has.notes) in
    λ i. record {
      sets = has.sets i;
      functions = has.functions i;
      filters = has.filters i;
      table = table i;
      lines = has.lines i;
      refused = has.refused i;
      notes = noted i;
    }

-- and what stands for them has it
pub has-from : (plan : PlannedQuery) (partial : PartialState) (notes : List Noted) (pieces : List IndexedPiece)
    → partial.notes ≡ sorted_by note_order notes → StandsFor plan partial pieces → Has plan partial notes pieces
has-from plan partial notes pieces ordered stands =
    let grouping = grouping_places plan.fields plan.query in
    let fs = aggregate_functions plan.fields plan.query in
    let rows = kept_records plan.fields plan.query (records_of plan.fields pieces) in
    record {
      sets = ap (λ (p : PartialState). p.sets) stands;
      functions = ap (λ (p : PartialState). p.functions) stands;
      filters = ap (λ (p : PartialState). p.filters) stands;
      table = subst (λ (t : Contents). IsTableOf grouping fs t rows) (sym (ap (λ (p : PartialState). p.table) stands)) (table_of-is grouping fs rows);
      lines = ap (λ (p : PartialState). p.lines) stands;
      refused = ap (λ (p : PartialState). p.refused) stands;
      notes = λ w.
          sym (sum_by-in_order note_order w (map (note_of plan.fields) pieces))
          ∙ ap (sum_by w) (sym (ap (λ (p : PartialState). p.notes) stands) ∙ ordered)
          ∙ sum_by-in_order note_order w notes;
    }

-- that two partial results are one has one proof at most
pub partials-prop : (p q : PartialState) → IsProp (p ≡ q)
partials-prop p q = Coded-set partial.the_row.coded p q

-- ---- a result of a plan

pub partial-both : (plan : PlannedQuery) (first second p : PartialState) → IsPartialOf plan first → IsPartialOf plan second → p ≡ both first second → IsPartialOf plan p
partial-both plan first second p a b is =
    ∥∥₁_map₂ a b (λ x y. (x.0 ++ y.0, is ∙ (λ i. both (x.1 i) (y.1 i)) ∙ sym (pieces-append plan x.0 y.0)))

pub partial-more : (plan : PlannedQuery) (before p : PartialState) (piece : IndexedPiece) → IsPartialOf plan before → p ≡ both before (of_piece plan piece) → IsPartialOf plan p
partial-more plan before p piece a is = partial-both plan before (of_piece plan piece) p a ∣ (piece ∷ [], refl) ∣₁ is

-- ---- a partial result that is made of others, part by part

pub both-from : (first second p : PartialState) → p.sets ≡ first.sets → p.functions ≡ first.functions → p.filters ≡ first.filters
    → p.table ≡ both_tables first.table second.table → p.lines ≡ first.lines + second.lines → p.refused ≡ first.refused + second.refused
    → p.notes ≡ sorted_by note_order (first.notes ++ second.notes) → p ≡ both first second
both-from first second p sets functions filters table count refused notes =
    λ i. record { sets = sets i; functions = functions i; filters = filters i; table = table i; lines = count i; refused = refused i; notes = notes i }

pub one-from : (before p : PartialState) → p.sets ≡ before.sets → p.functions ≡ before.functions → p.filters ≡ before.filters → p.table ≡ before.table
    → p.lines ≡ before.lines → p.refused ≡ before.refused → p.notes ≡ notes_of_one before.lines (numbered_lines before) → p ≡ as_one before
one-from before p sets functions filters table count refused notes =
    λ i. record { sets = sets i; functions = functions i; filters = filters i; table = table i; lines = count i; refused = refused i; notes = notes i }

pub concatenation-from : (front rest p : PartialState) → p.sets ≡ front.sets → p.functions ≡ front.functions → p.filters ≡ front.filters
    → p.table ≡ both_tables front.table rest.table → p.lines ≡ front.lines + rest.lines → p.refused ≡ front.refused + rest.refused
    → p.notes ≡ note_of_one (front.lines + rest.lines) (numbered_lines front ++ map (λ line. (front.lines + line.0, line.1)) (numbered_lines rest)) ∷ []
    → p ≡ concatenation front rest
concatenation-from front rest p sets functions filters table count refused notes =
    λ i. record { sets = sets i; functions = functions i; filters = filters i; table = table i; lines = count i; refused = refused i; notes = notes i }
