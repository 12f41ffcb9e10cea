use Rattle.std.proofs.Common.{◌≡◌, ◌<◌, ◌^◌, ◌-ℤ◌, arith, neg_ℤ, of_z, pos, subst, sym, to_z, w64, ◌∙◌}
use Rattle.std.proofs.lemmas.Int.{ints}
use Rattle.lines_json.specs.Standing.{IsWholeNumberAt}
use Rattle.lines_json.proofs.WholeNumbers.{negative-at, positive-at, size_small}
use Rattle.lines_json.proofs.numbers.short.short_number_at.Goals as goal

pub overflow_cast-result : goal.overflow_cast-result
overflow_cast-result c = omega (arith, ints, size_small _ _ _ _ c.in_ok-size.ensures)

pub overflow_sub-result : goal.overflow_sub-result
overflow_sub-result c = omega (arith, ints, size_small _ _ _ _ c.in_ok-size.ensures)

pub overflow_cast-result-else-byte_at-eq45 : goal.overflow_cast-result-else-byte_at-eq45
overflow_cast-result-else-byte_at-eq45 c = omega (arith, ints, size_small _ _ _ _ c.in_ok-size-2.ensures)

pub returns-then-size-gt0 : goal.returns-then-size-gt0
returns-then-size-gt0 c =
    let found = c.in_ok-size in
    let small : found.size < 10 ^ 18 = size_small c.args.text.now _ _ _ found.ensures in
    let same : neg_ℤ (pos found.size) ≡ to_z w64 (of_z w64 (pos 0 -ℤ to_z w64 found.size)) = omega (arith, ints) in
    subst (IsWholeNumberAt c.args.text.now c.args.at found.stop) same
    (negative-at c.args.text.now c.args.at found.stop found.size (sym c.byte_at.ensures ∙ c.if-byte_at-eq45.true) found.ensures c.if-size-gt0.true)

pub returns-in_ok-size-2 : goal.returns-in_ok-size-2
returns-in_ok-size-2 c =
    let found = c.in_ok-size-2 in
    let small : found.size < 10 ^ 18 = size_small c.args.text.now _ _ _ found.ensures in
    let same : pos found.size ≡ to_z w64 found.size = omega (arith, ints) in
    subst (IsWholeNumberAt c.args.text.now c.args.at found.stop) same
    (positive-at c.args.text.now c.args.at found.stop found.size (λ e. c.if-byte_at-eq45.false (c.byte_at.ensures ∙ e)) found.ensures)
