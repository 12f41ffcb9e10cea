use Rattle.std.proofs.Common.{◌∙◌, ◌++◌, false, List, length, map, sym, ap, arith}
use Rattle.group_tables.specs.declared.pairs.Pair.{Pair}
use Rattle.group_tables.specs.declared.shard.Shard.{Shard}
use Rattle.group_tables.proofs.InPairs.{one-more}
use Rattle.group_tables.proofs.pairs.pairs_of.Goals as goal

pub loop-shard-preserved : goal.loop-shard-preserved
loop-shard-preserved c =
    let s = c.in-Some.ensures.steps in
    let i = c.loop-shard.invariant in
    let pairs = c.loop-shard.pairs.items in
    let pair : Pair = record { shard = c.in-Some.shard; other = c.in-Some.other; is_joined = false } in
    let rest = c.next.new.self in
    record {
      shards = ap (λ (ps : List Pair). map (λ (p : Pair). p.shard) ps ++ rest.a.rest.items) c.in_ok-push.ensures.items ∙ one-more (λ (p : Pair). p.shard) pairs pair rest.a.rest.items
          ∙ ap (λ (ss : List Shard). map (λ (p : Pair). p.shard) pairs ++ ss) (sym s.0.0) ∙ i.shards;
      others = ap (λ (ps : List Pair). map (λ (p : Pair). p.other) ps ++ rest.b.rest.items) c.in_ok-push.ensures.items ∙ one-more (λ (p : Pair). p.other) pairs pair rest.b.rest.items
          ∙ ap (λ (ss : List Shard). map (λ (p : Pair). p.other) pairs ++ ss) (sym s.1.0) ∙ i.others;
      same = let p = ap length s.0.0 in let q = ap length s.1.0 in let o = i.same in omega (arith, p, q, o);
    }
