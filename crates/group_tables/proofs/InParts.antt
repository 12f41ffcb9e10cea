-- The groups of shards that are finished one by one, put together.
use Rattle.std.proofs.Common.{Result, Ok, IfOk, ◌≡◌, ◌<◌, ℕ, suc, List, [], ◌∷◌, ◌++◌, length, map, get_or, Vec, Global, refl, sym, ap, subst, ◌∙◌, append-nil, append_assoc, arith}
use Rattle.std.specs.declared.alloc.AllocError.{AllocError}
use Rattle.semantics.specs.ResultRows.{GroupSummary}
use Rattle.group_tables.specs.GroupSummaries.{group_summary_in}
use Rattle.group_tables.specs.Inside.GroupsOfShards.{AreGroupsOfEach, AreGroupsOfShard}
use Rattle.group_tables.specs.Shards.{all_entries, entries_in}
use Rattle.group_tables.specs.declared.group.Group.{Group}
use Rattle.group_tables.specs.declared.shard.Shard.{Shard}
use Rattle.group_tables.specs.Inside.Summaries.{entry_summaries}
use Rattle.group_tables.proofs.Walks.{entry_summaries-append}

abbrev pub Part : Type 0
Part = Result (Vec Group Global) AllocError

-- where each part is of the shard of its place, all are
pub finished-each : (shards : List Shard) (parts : List Part) → length parts ≡ length shards
    → ((i : ℕ) (d : Part) (e : Shard) → i < length shards → IfOk (get_or parts i d) (λ groups. AreGroupsOfShard (get_or shards i e) groups.items))
    → AreGroupsOfEach shards parts
finished-each [] [] l h = tt
finished-each [] (p ∷ parts) l h = absurd (omega (arith, l))
finished-each (s ∷ shards) [] l h = absurd (omega (arith, l))
finished-each (s ∷ shards) (p ∷ parts) l h = (
  h 0 p s (omega arith),
  finished-each shards parts (omega (arith, l)) (λ i d e m. h (suc i) d e (omega (arith, m))),
)

shown-append : (gs hs : List Group) → map group_summary_in (gs ++ hs) ≡ map group_summary_in gs ++ map group_summary_in hs
shown-append [] hs = refl
shown-append (g ∷ gs) hs = ap (λ rs. group_summary_in g ∷ rs) (shown-append gs hs)

-- groups, and the parts that are left, of some shards, come to all
abbrev pub ComesTo : List GroupSummary → List Group → List Part → Type 0
ComesTo all groups parts = (left : List Shard) × AreGroupsOfEach left parts × (map group_summary_in groups ++ entry_summaries (all_entries left) ≡ all)

pub part-joined : (all : List GroupSummary) (groups more : List Group) (part : Part) (parts : List Part) (made : Vec Group Global) → part ≡ Ok made → more ≡ groups ++ made.items
    → ComesTo all groups (part ∷ parts) → ComesTo all more parts
part-joined all groups more part parts made was is ([], none, e) = absurd none
part-joined all groups more part parts made was is (s ∷ left, f, e) =
    let this : AreGroupsOfShard s made.items = subst (λ (p : Part). IfOk p (λ gs. AreGroupsOfShard s gs.items)) was f.0 in (
      left,
      f.1,
      ap (λ gs. map group_summary_in gs ++ entry_summaries (all_entries left)) is
          ∙ ap (λ rs. rs ++ entry_summaries (all_entries left)) (shown-append groups made.items)
          ∙ append_assoc (map group_summary_in groups) (map group_summary_in made.items) (entry_summaries (all_entries left))
          ∙ ap (λ rs. map group_summary_in groups ++ (rs ++ entry_summaries (all_entries left))) this
          ∙ ap (λ rs. map group_summary_in groups ++ rs) (sym (entry_summaries-append (entries_in s) (all_entries left)))
          ∙ e,
    )

pub none-left : (all : List GroupSummary) (groups : List Group) (parts : List Part) → parts ≡ [] → ComesTo all groups parts → map group_summary_in groups ≡ all
none-left all groups [] is ([], f, e) = sym (append-nil (map group_summary_in groups)) ∙ e
none-left all groups [] is (s ∷ left, none, e) = absurd none
none-left all groups (p ∷ parts) is h = cc
