use Rattle.std.proofs.lemmas.Str.Pattern.{strip_prefix_char}
use Rattle.query_lexer.proofs.Cut.{behind_is}
use Rattle.query_lexer.proofs.signs.behind.Goals as goal

pub returns-clause-exact : goal.returns-clause-exact
returns-clause-exact c = behind_is c.args.c c.args.text.now c.strip_prefix.result (strip_prefix_char c.args.c c.args.text.now c.strip_prefix.result c.strip_prefix.ensures.cases c.requires)
