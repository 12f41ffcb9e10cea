use Rattle.std.proofs.Common.{◌∙◌, refl, map, length-set, arith}
use Rattle.std.proofs.lemmas.List.Sorted.{IsPermutation-refl, IsPermutation-trans}
use Rattle.group_tables.specs.GroupSummaries.{group_summary_in}
use Rattle.group_tables.proofs.Walks.{put_next-permutes}
use Rattle.group_tables.proofs.walk.put_next_of_each.Goals as goal

pub loop-place-init : goal.loop-place-init
loop-place-init c = record { count = refl; same = IsPermutation-refl _ }

pub loop-place-preserved : goal.loop-place-preserved
loop-place-preserved c =
    let walks = c.loop-place.walks.items in
    let place = c.loop-place.place in
    let new = c.put_next.new.walk in
    let i = c.loop-place.invariant in
    record {
      count = length-set walks place new ∙ i.count;
      same = IsPermutation-trans _ _ _ i.same
          (put_next-permutes (map group_summary_in c.loop-place.groups.items) (map group_summary_in c.put_next.new.groups.items) place walks c.index_mut.result.now new
          c.index_mut.ensures.value (omega (arith, c.loop-place-test.true, c.len-place-end.ensures, c.args.walks.now.ok, i.count)) c.in_ok-put_next.ensures);
    }
