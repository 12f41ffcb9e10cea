use Rattle.query_parser.proofs.Complete.{read}
use Rattle.query_ast.specs.Syntax.{tree_form}
use Rattle.query_parser.proofs.Faults.{derived, unexpected, within, over_limit}
use Rattle.query_parser.proofs.query.read_query.Goals as goal

pub returns-clause-derived : goal.returns-clause-derived
returns-clause-derived c = derived c.args.tokens.now c.whole.result c.whole.ensures

pub returns-clause-read : goal.returns-clause-read
returns-clause-read c = read c.args.tokens.now c.whole.result c.whole.ensures

pub returns-clause-unexpected : goal.returns-clause-unexpected
returns-clause-unexpected c = unexpected (λ t. tree_form t.value) c.args.tokens.now c.whole.result c.whole.ensures

pub returns-clause-over_limit : goal.returns-clause-over_limit
returns-clause-over_limit c = over_limit (λ t. tree_form t.value) c.args.tokens.now c.whole.result c.whole.ensures

pub returns-clause-within : goal.returns-clause-within
returns-clause-within c = within (λ t. tree_form t.value) c.args.tokens.now c.whole.result c.whole.ensures
