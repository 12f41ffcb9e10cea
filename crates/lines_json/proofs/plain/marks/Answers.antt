use Rattle.std.proofs.Common.{◌==◌, ◌||◌, arith, nat_lt}
use Rattle.std.proofs.lemmas.Simd.{zip2_splat}
use Rattle.json.specs.Run.{is_stop}
use Rattle.lines_json.proofs.Marks.{either_lane, lane, lanes-mask}
use Rattle.lines_json.proofs.plain.marks.Goals as goal

pub returns : goal.returns
returns c =
    let bytes = c.args.bytes in
    let long = c.fits-bytes.0 in
    let quotes = zip2_splat (λ a b. lane (a == b)) bytes 16 34 long in
    let backslashes = zip2_splat (λ a b. lane (a == b)) bytes 16 92 long in
    let controls = zip2_splat (λ a b. lane (nat_lt a b)) bytes 16 32 long in
    let marked = either_lane (λ x. (x == 34) || (x == 92)) (λ x. nat_lt x 32) bytes (either_lane (λ x. x == 34) (λ x. x == 92) bytes quotes backslashes) controls in
    lanes-mask is_stop bytes (omega arith) marked
