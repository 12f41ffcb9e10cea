use Rattle.std.proofs.Common.{◌-◌, arith, drop, length, refl, take}
use Rattle.std.proofs.lemmas.List.{length-drop, take_all}
use Rattle.lines_json.proofs.WholeNumbers.{digits-at}
use Rattle.lines_json.proofs.numbers.short.digits_at.Goals as goal

pub returns-then-is_whole : goal.returns-then-is_whole
returns-then-is_whole c =
    let text = c.args.text.now in
    let from = c.args.from in
    let all = take_all (length text - from) (drop from text) (omega (arith, length-drop from text)) in
    let read = c.leading_digits-size in
    let is = c.if-is_whole.ensures in
    digits-at text (take (length text - from) (drop from text)) from read.result.1 read.result.0 all c.requires (is.some refl) read.ensures.short read.ensures.within read.ensures.digits read.ensures.value (is.first refl)
    (is.ends refl)
