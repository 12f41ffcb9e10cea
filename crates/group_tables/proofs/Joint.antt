-- Two tables, put together: one table, whichever of them comes first.
use Rattle.std.proofs.Common.{◌≡◌, ◌+◌, ℕ, true, false, cond, List, [], ◌∷◌, ◌++◌, length, map, Option, Some, None, IfSome, refl, sym, ap, ◌∙◌, arith}
use Rattle.std.specs.FinMap as fin
use Rattle.std.specs.Option.{option_map_or}
use Rattle.semantics.specs.Aggregates.{AggregateFunction}
use Rattle.semantics.specs.Groups.{Key, Record, key_order, same_key}
use Rattle.group_tables.specs.Accumulator.{AccumulatorState, nothing, counted, summed, averaged, collected, lowest, highest, joint_state}
use Rattle.group_tables.specs.Group.{GroupState, joint_group, joint_states}
use Rattle.group_tables.specs.Table.{CanJoin, Contents, HasGroupsOfBoth, IsFitting, both_tables, joint_entry, joint_option, table_of}
use Rattle.group_tables.proofs.AnyOrder.{plus_flip, sum_flip}
use Rattle.group_tables.proofs.Firsts.{greater-flip, less-flip}
use Rattle.group_tables.proofs.GroupsLaw.{table-is, table_of-is}
use Rattle.group_tables.proofs.Meaning.{same_state, table-joined}
use Rattle.group_tables.proofs.Order.{key_antisymmetric, key_total, same_key-Decides}
use Rattle.group_tables.proofs.Sets.{union-flip}

-- ---- what is kept of two parts of a group

nothing-last : (k : AccumulatorState) → joint_state k nothing ≡ nothing
nothing-last nothing = refl
nothing-last (counted n) = refl
nothing-last (summed s n) = refl
nothing-last (averaged s n) = refl
nothing-last (collected s) = refl
nothing-last (lowest k) = refl
nothing-last (highest k) = refl

joint_state-flip : (k l : AccumulatorState) → joint_state k l ≡ joint_state l k
joint_state-flip (counted m) (counted n) = ap counted (plus_flip m n)
joint_state-flip (summed s m) (summed t n) = λ i. summed (sum_flip s t i) (plus_flip m n i)
joint_state-flip (averaged s m) (averaged t n) = λ i. averaged (sum_flip s t i) (plus_flip m n i)
joint_state-flip (collected s) (collected t) = ap collected (union-flip s t)
joint_state-flip (lowest k) (lowest l) = ap lowest (less-flip k l)
joint_state-flip (highest k) (highest l) = ap highest (greater-flip k l)
joint_state-flip nothing l = sym (nothing-last l)
joint_state-flip k l = refl

joint_states-flip : (ks ls : List AccumulatorState) → length ks ≡ length ls → joint_states ks ls ≡ joint_states ls ks
joint_states-flip [] [] e = refl
joint_states-flip [] (l ∷ ls) e = absurd (omega (arith, e))
joint_states-flip (k ∷ ks) [] e = absurd (omega (arith, e))
joint_states-flip (k ∷ ks) (l ∷ ls) e = λ i. joint_state-flip k l i ∷ joint_states-flip ks ls (omega (arith, e)) i

option-flip : (a b : Option GroupState) → IfSome b (λ part. IsFitting part a) → joint_option a b ≡ joint_option b a
option-flip None None h = refl
option-flip None (Some b) h = refl
option-flip (Some a) None h = refl
option-flip (Some a) (Some b) h =
    ap Some (same_state (joint_group a b) (joint_group b a) (plus_flip a.lines b.lines) (joint_states-flip a.parts b.parts (sym h.1)))

-- ---- at each key two tables, put together, have what both have

nothing-more : (o : Option GroupState) → o ≡ joint_option o None
nothing-more None = refl
nothing-more (Some group) = refl

put-to : (o : Option GroupState) (group : GroupState) → Some (option_map_or (λ kept. joint_group kept group) o group) ≡ joint_option o (Some group)
put-to None group = refl
put-to (Some kept) group = refl

find-both : (t : Contents) (q : Key) (es : List (Key × GroupState))
    → fin.find key_order q (map (joint_entry t) es ++ fin.entries t) ≡ joint_option (fin.get t q) (fin.find key_order q es)
find-both t q [] = sym (fin.get-entries t q) ∙ nothing-more (fin.get t q)
find-both t q (e ∷ es) =
    elim (same_key q e.0) as (λ b. same_key q e.0 ≡ b
    → cond b (Some (joint_entry t e).1) (fin.find key_order q (map (joint_entry t) es ++ fin.entries t))
    ≡ joint_option (fin.get t q) (cond b (Some e.1) (fin.find key_order q es))) [
      | true ↦ λ same.
          ap (λ k. Some (option_map_or (λ kept. joint_group kept e.1) (fin.get t k) e.1)) (sym ((same_key-Decides q e.0).0 same))
          ∙ put-to (fin.get t q) e.1
      | false ↦ λ _. find-both t q es
    ] refl

pub both_tables-has : (t u : Contents) → HasGroupsOfBoth t u (both_tables t u)
both_tables-has t u q =
    fin.get-from_entries key_total (map (joint_entry t) (fin.entries u) ++ fin.entries t) q
    ∙ find-both t q (fin.entries u)
    ∙ ap (joint_option (fin.get t q)) (sym (fin.get-entries u q))

-- and no other table has
pub both_tables-is : (t u v : Contents) → HasGroupsOfBoth t u v → v ≡ both_tables t u
both_tables-is t u v both = fin.same_map key_total key_antisymmetric v (both_tables t u) (λ q. both q ∙ sym (both_tables-has t u q))

-- whichever of two tables comes first
pub both_tables-flip : (t u : Contents) → CanJoin t u → both_tables t u ≡ both_tables u t
both_tables-flip t u fit =
    both_tables-is u t (both_tables t u) (λ q. both_tables-has t u q ∙ option-flip (fin.get t q) (fin.get u q) (fit q))

-- ---- tables of records

-- the table of the records of two tables is both, put together
pub table_of-append : (set : List ℕ) (functions : List AggregateFunction) (rows more : List Record)
    → table_of set functions (rows ++ more) ≡ both_tables (table_of set functions rows) (table_of set functions more)
table_of-append set functions rows more =
    let first = table_of set functions rows in
    let second = table_of set functions more in
    sym (table-is set functions (both_tables first second) (rows ++ more)
    (table-joined set functions first second (both_tables first second) rows more (table_of-is set functions rows) (table_of-is set functions more) (both_tables-has first second)))
