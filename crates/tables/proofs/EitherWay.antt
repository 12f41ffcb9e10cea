-- Two tables are put together either way round.
use Rattle.std.proofs.Common.{◌≡◌, ◌⊎◌, Option, Some, None, IfSome, inl, inr, sym, ap, ◌∙◌, arith}
use Rattle.std.specs.FinMap as fin
use Rattle.group_tables.specs.Group.{GroupState}
use Rattle.group_tables.specs.Table.{CanJoin, Contents, IsFitting, both_tables}
use Rattle.group_tables.proofs.Joint.{both_tables-flip}

fits-flip : (a b : Option GroupState) → IfSome b (λ part. IsFitting part a) → IfSome a (λ part. IsFitting part b)
fits-flip None b h = tt
fits-flip (Some a) None h = tt
fits-flip (Some a) (Some b) h = (omega (arith, h.0), sym h.1)

pub can_join-flip : (t u : Contents) → CanJoin t u → CanJoin u t
can_join-flip t u h key = fits-flip (fin.get t key) (fin.get u key) (h key)

-- whichever of two tables moves into the other, the two are put together
pub both-either_way : (first second : Contents) (pair : Contents × Contents) (table : Contents) → (pair ≡ (first, second)) ⊎ (pair ≡ (second, first)) → CanJoin first second
    → table ≡ both_tables pair.0 pair.1 → table ≡ both_tables first second
both-either_way first second pair table (inl e) fit both = both ∙ ap (λ (p : Contents × Contents). both_tables p.0 p.1) e
both-either_way first second pair table (inr e) fit both =
    both ∙ ap (λ (p : Contents × Contents). both_tables p.0 p.1) e ∙ sym (both_tables-flip first second fit)
