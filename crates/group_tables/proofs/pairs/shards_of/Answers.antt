use Rattle.std.proofs.Common.{◌≡◌, ◌∙◌, ◌++◌, ◌∷◌, [], true, All, List, map, sym, ap, subst, append_assoc}
use Rattle.std.proofs.lemmas.Bool.{not-false}
use Rattle.std.proofs.lemmas.List.Elements.{All-cons}
use Rattle.group_tables.specs.declared.pairs.Pair.{Pair}
use Rattle.group_tables.specs.declared.shard.Shard.{Shard}
use Rattle.group_tables.proofs.pairs.shards_of.Goals as goal

pub loop-pair-preserved : goal.loop-pair-preserved
loop-pair-preserved c =
    let i = c.loop-pair.invariant in
    let rest = c.next.new.self.rest.items in
    let is : c.loop-pair.pair-iterator.rest.items ≡ c.in-Some.pair ∷ rest = c.in-Some.ensures.steps.0 in
    record {
      shards = ap (λ (xs : List Shard). xs ++ map (λ (p : Pair). p.shard) rest) c.in_ok-push.ensures.items ∙ append_assoc c.loop-pair.shards.items (c.in-Some.pair.shard ∷ []) (map (λ (p : Pair). p.shard) rest)
          ∙ ap (λ (ps : List Pair). c.loop-pair.shards.items ++ map (λ (p : Pair). p.shard) ps) (sym is) ∙ i.shards;
      joined = λ all. i.joined (subst (All (λ (p : Pair). p.is_joined ≡ true)) (sym is) (All-cons (λ (p : Pair). p.is_joined ≡ true) c.in-Some.pair rest (not-false c.in-Some.pair.is_joined c.if-not-pair.false) all));
    }
