use Rattle.std.proofs.Common.{◌≡◌, ◌+◌, ◌-◌, ◌++◌, ◌∷◌, [], map, suc, vec_len, arith}
use Rattle.std.proofs.lemmas.Result.{err_from_is_err_and}
use Rattle.std.proofs.lemmas.List.{map_push}
use Rattle.semantics.specs.declared.token.Sign.TheVariants.{Comma}
use Rattle.query_parser.specs.Inside.Fronts.{is_sign}
use Rattle.query_parser.proofs.More.{loop_over, loop_ends, loop_fails, front_goes, refused}
use Rattle.query_parser.proofs.lists.more_parts.Goals as goal

pub returns-in_err-next-clause-exact : goal.returns-in_err-next-clause-exact
returns-in_err-next-clause-exact g c =
    let p = err_from_is_err_and c.from_residual-in_err-next.result c.from_residual-in_err-next.ensures.1 in
    let k : c.args.most_others + 1 - vec_len c.loop-behind.all ≡ suc (c.args.most_others - vec_len c.loop-behind.all) = omega (arith, c.if-len-most_others.false, c.len.ensures, c.loop-behind.invariant.few) in
    rw (p.1, p.2) (loop_fails c.in_err-next.field-0.0 (is_sign Comma) g.L.Listed.front g.L.Listed.reader _ (map g.L.Listed.form c.loop-behind.all.items) c.loop-behind.rest.now c.in-Some.behind.now _ c.in-Some.ensures.exact c.in_err-next.ensures.exact (rw k at c.loop-behind.invariant.told))

pub loop-behind-preserved : goal.loop-behind-preserved
loop-behind-preserved g c =
    let e : map g.L.Listed.form c.push-in-Some.new.self.items ≡ map g.L.Listed.form c.loop-behind.all.items ++ g.L.Listed.form c.in_ok-next.next ∷ [] = rw c.in_ok-push-2.ensures.items (map_push g.L.Listed.form c.loop-behind.all.items c.in_ok-next.next) in
    let k : c.args.most_others + 1 - vec_len c.loop-behind.all ≡ suc (c.args.most_others + 1 - vec_len c.push-in-Some.new.self) = omega (arith, c.in_ok-push-2.ensures.len, c.if-len-most_others.false, c.len.ensures, c.loop-behind.invariant.few) in
    let h = rw k at c.loop-behind.invariant.told in
    record {
      some = omega (arith, c.in_ok-push-2.ensures.len);
      shorter = omega (arith, c.in-Some.ensures.shorter, c.in_ok-next.ensures.shorter, c.loop-behind.invariant.shorter);
      few = omega (arith, c.in_ok-push-2.ensures.len, c.if-len-most_others.false, c.len.ensures, c.loop-behind.invariant.few);
      told = rw e (front_goes (is_sign Comma) g.L.Listed.front g.L.Listed.reader _ (map g.L.Listed.form c.loop-behind.all.items) c.loop-behind.rest.now c.in-Some.behind.now c.in_ok-next.left.now (g.L.Listed.form c.in_ok-next.next) _ c.in-Some.ensures.exact c.in_ok-next.ensures.exact h);
    }

pub returns-clause-exact : goal.returns-clause-exact
returns-clause-exact g c = loop_ends (is_sign Comma) g.L.Listed.front g.L.Listed.reader _ (map g.L.Listed.form c.loop-behind.all.items) c.loop-behind.rest.now _ c.in_default.ensures.exact c.loop-behind.invariant.told

pub returns-then-len-most_others-clause-exact : goal.returns-then-len-most_others-clause-exact
returns-then-len-most_others-clause-exact g c =
    let k : c.args.most_others + 1 - vec_len c.loop-behind.all ≡ 0 = omega (arith, c.if-len-most_others.true, c.len.ensures) in
    refused c.excess.result g.L.Listed.front c.in-Some.behind.now _ c.excess.ensures (loop_over (is_sign Comma) g.L.Listed.front g.L.Listed.reader (map g.L.Listed.form c.loop-behind.all.items) c.loop-behind.rest.now c.in-Some.behind.now _ c.in-Some.ensures.exact (rw k at c.loop-behind.invariant.told))
