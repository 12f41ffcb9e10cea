use Rattle.std.proofs.Common.{◌<◌, arith, length, take}
use Rattle.std.proofs.lemmas.Int.Digits.{digits_more, digits_value_more}
use Rattle.std.proofs.lemmas.List.{length-take-le}
use Rattle.std.proofs.lemmas.Str.{digit_value_digit}
use Rattle.lines_json.proofs.WholeNumbers.{digits-small}
use Rattle.lines_json.proofs.numbers.short.leading_digits.Goals as goal

pub overflow_mul-size : goal.overflow_mul-size
overflow_mul-size c =
    let loop = c.loop-count in
    let few : length (take loop.count c.args.text.now) < 18 = omega (arith, length-take-le loop.count c.args.text.now) in
    omega (arith, loop.invariant.value, digits-small (take loop.count c.args.text.now) 17 loop.invariant.digits (omega arith))

pub overflow_add-size : goal.overflow_add-size
overflow_add-size c =
    let loop = c.loop-count in
    let few : length (take loop.count c.args.text.now) < 18 = omega (arith, length-take-le loop.count c.args.text.now) in
    omega (arith, loop.invariant.value, digits-small (take loop.count c.args.text.now) 17 loop.invariant.digits (omega arith))

pub loop-count-preserved : goal.loop-count-preserved
loop-count-preserved c =
    let text = c.args.text.now in
    let loop = c.loop-count in
    let digit = c.if-is_ascii_digit.ensures in
    record {
      within = omega arith;
      digits = digits_more 10 text loop.count (omega arith) loop.invariant.digits digit.bound;
      value = omega (arith, digits_value_more 10 text loop.count (omega arith), loop.invariant.value, digit_value_digit _ digit.cases);
    }
