use Rattle.std.specs.Str.Parse.{ExplainsUnsignedError, HasUnsignedDigitsIfOk, ParsesUnsigned}
use Rattle.jlreport_cli.proofs.Numbers.{IsNumberIn-read}
use Rattle.jlreport_cli.proofs.arguments.number_of.Goals as goal

pub returns : goal.returns
returns c = IsNumberIn-read _ (λ t r. ParsesUnsigned 64 10 t r × ExplainsUnsignedError 10 t r × HasUnsignedDigitsIfOk t r) _ _
    c.get_one.ensures.none c.get_one.ensures.value (λ t r given. given.0)
