use Rattle.std.proofs.Common.{◌≡◌, ◌+◌, ◌-◌, ◌≤◌, length, map, ◌∷◌, [], vec_len}
use Rattle.semantics.specs.declared.token.Sign.TheVariants.{Comma}
use Rattle.query_parser.specs.Inside.Fronts.{is_sign}
use Rattle.query_parser.specs.Inside.Steps.{with_front, more}
use Rattle.query_parser.proofs.lists.more_parts.Given as goal

abbrev pub invariant-loop-behind : goal.invariant-loop-behind
invariant-loop-behind g l = record {
  some : 1 ≤ vec_len l.all;
  shorter : length l.rest ≤ length l.fn.tokens;
  few : vec_len l.all ≤ l.fn.most_others + 1;
  told : with_front (map g.L.Listed.form l.all.items) (more (is_sign Comma) g.L.Listed.front g.L.Listed.reader (l.fn.most_others + 1 - vec_len l.all) l.rest) ≡ with_front (g.L.Listed.form l.fn.first ∷ []) (more (is_sign Comma) g.L.Listed.front g.L.Listed.reader l.fn.most_others l.fn.tokens);
}

abbrev pub decreases-loop-behind : goal.decreases-loop-behind
decreases-loop-behind g l = l.fn.most_others + 1 - vec_len l.all
