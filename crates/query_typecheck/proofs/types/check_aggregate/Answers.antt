use Rattle.std.proofs.Common.{◌≡◌, ◌∙◌, ◌⊎◌, ℕ, List, [], ◌∷◌, Option, Some, None, inl, inr, refl, sym, ap, subst}
use Rattle.std.specs.Option.{option_or}
use Rattle.values.specs.Schema.{fields_of}
use Rattle.semantics.specs.declared.aggregate.Aggregate.{Aggregate}
use Rattle.semantics.specs.declared.aggregate.Aggregate.TheVariants as aggregate
use Rattle.query_typecheck.specs.FirstFaults.{Answers, argument_fault, first_fault}
use Rattle.query_typecheck.specs.Typing.{argument_names, takes}
use Rattle.query_typecheck.proofs.types.check_aggregate.Goals as goal

-- A set function with a column is taken of it.
argument_of : (a : Aggregate) (x : List ℕ) → (a ≡ aggregate.Count x) ⊎ ((a ≡ aggregate.CountDistinct x) ⊎ ((a ≡ aggregate.Sum x) ⊎ ((a ≡ aggregate.Min x) ⊎ ((a ≡ aggregate.Max x) ⊎ (a ≡ aggregate.Avg x))))) → argument_names a ≡ x ∷ []
argument_of a x (inl e) = ap argument_names e
argument_of a x (inr (inl e)) = ap argument_names e
argument_of a x (inr (inr (inl e))) = ap argument_names e
argument_of a x (inr (inr (inr (inl e)))) = ap argument_names e
argument_of a x (inr (inr (inr (inr (inl e))))) = ap argument_names e
argument_of a x (inr (inr (inr (inr (inr e))))) = ap argument_names e

-- A test and then none is the test.
or_none : {A : Type 0} (o : Option A) → option_or o None ≡ o
or_none None = refl
or_none (Some x) = refl

pub returns-in-Count : goal.returns-in-Count
returns-in-Count c =
    let fault = argument_fault (fields_of c.args.columns.now) (takes c.args.aggregate.now) in
    let same = ap (first_fault fault) (argument_of c.args.aggregate.now c.in-Count.x c.in-Count.is) ∙ or_none (fault c.in-Count.x) in
    record { fault = subst (Answers c.check_argument.result) (sym same) c.check_argument.ensures.fault }
