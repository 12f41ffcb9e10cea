-- What the functions of items and whole queries read in front of tokens, one definition for each
-- function, as it computes it. No public contract rests on this file: what tokens derive is said in
-- Grammar.
use Rattle.std.specs.Prelude.{◌-◌, ℕ, suc, Bool, true, false, List, ◌∷◌, Option, Some, None, Result, Ok, cond, codes, []}
use Rattle.std.specs.Str.{bytes_eq}
use Rattle.semantics.specs.declared.token.Token.{Token}
use Rattle.semantics.specs.declared.token.Word.{Word}
use Rattle.semantics.specs.declared.token.Word.TheVariants as w
use Rattle.query_lexer.specs.Options.{choose}
use Rattle.semantics.specs.Syntax.{Predicate, GroupingElement, SelectItem, SortKey, Query}
use Rattle.semantics.specs.Leaves.{Limits}
use Rattle.values.specs.Results.{◌>>=◌}
use Rattle.query_parser.specs.Inside.Fronts.{is_word, after}
use Rattle.query_parser.specs.Inside.Steps.{Reader, unexpected_at, found_or_unexpected, listed_at, name_at}
use Rattle.query_parser.specs.Inside.Stops.{Stop}
use Rattle.query_parser.specs.Inside.ExpressionSteps.{expression_at, begins_expression}
use Rattle.query_parser.specs.Inside.PredicateSteps.{predicate_at, inside_of, any_front}
use Rattle.query_parser.specs.Inside.GroupSteps.{all_at, group_at}
use Rattle.query_parser.specs.Inside.KeySteps.{keys_at}

-- An alias, or none.
unfoldable pub alias_at : Reader (Option (List ℕ))
alias_at ts = choose (after (is_word w.As) ts) (Ok (None, ts)) (λ a. found_or_unexpected name_at a >>= λ n. Ok (Some n.0, n.1))

-- An item.
unfoldable pub item_at : Limits → Reader SelectItem
item_at limits ts = expression_at (inside_of limits limits.levels) ts >>= λ e. alias_at e.1 >>= λ a. Ok (record { expression = e.0; alias = a.0 }, a.1)

-- The items of SELECT.
unfoldable pub items_at : Limits → Reader (List SelectItem)
items_at limits ts = listed_at begins_expression (item_at limits) (limits.items - 1) ts

-- What stands behind FROM and the name `lines`.
unfoldable pub from_at : List Token → Result (List Token) Stop
from_at ts = found_or_unexpected (after (is_word w.From)) ts >>= λ a. found_or_unexpected name_at a >>= λ n. cond (bytes_eq n.0 (codes "lines")) (Ok n.1) (unexpected_at a)

-- The predicate of WHERE or HAVING behind its word, or none.
unfoldable pub clause_at : Limits → Word → Reader (Option Predicate)
clause_at limits word ts = choose (after (is_word word) ts) (Ok (None, ts)) (λ a. predicate_at limits (suc limits.levels) a >>= λ p. Ok (Some p.0, p.1))

-- Whether DISTINCT is written, and what stands behind it.
unfoldable pub set_quantifier_at : List Token → Bool × List Token
set_quantifier_at ts = choose (after (is_word w.Distinct) ts) (false, ts) (λ r. (true, r))

-- What stands behind GROUP BY: whether DISTINCT is written, and the elements.
unfoldable pub elements_at : Limits → Reader (Bool × List GroupingElement)
elements_at limits ts = all_at any_front (group_at limits.sets) (set_quantifier_at ts).1 >>= λ gs. Ok (((set_quantifier_at ts).0, gs.0), gs.1)

-- Whether GROUP BY DISTINCT is written, and the elements of GROUP BY, or none.
unfoldable pub groups_at : Limits → Reader (Bool × List GroupingElement)
groups_at limits ts = choose (after (is_word w.Group) ts) (Ok ((false, []), ts)) (λ a. found_or_unexpected (after (is_word w.By)) a >>= λ b. elements_at limits b)

-- The items of SELECT, and what stands behind FROM.
unfoldable pub select_at : Limits → Reader (List SelectItem)
select_at limits ts = found_or_unexpected (after (is_word w.Select)) ts >>= λ a. items_at limits a >>= λ is. from_at is.1 >>= λ rest. Ok (is.0, rest)

-- WHERE and GROUP BY, which say of the records.
unfoldable pub records_at : Limits → Reader (Option Predicate × Bool × List GroupingElement)
records_at limits ts = clause_at limits w.Where ts >>= λ p. groups_at limits p.1 >>= λ gs. Ok ((p.0, gs.0.0, gs.0.1), gs.1)

-- HAVING and ORDER BY, which say of the rows.
unfoldable pub rows_at : Limits → Reader (Option Predicate × List SortKey)
rows_at limits ts = clause_at limits w.Having ts >>= λ h. keys_at limits h.1 >>= λ ks. Ok ((h.0, ks.0), ks.1)

-- A query.
unfoldable pub query_at : Limits → Reader Query
query_at limits ts = select_at limits ts >>= λ is. records_at limits is.1 >>= λ a. rows_at limits a.1 >>= λ b.
    Ok (record { items = is.0; where_condition = a.0.0; distinct_sets = a.0.1; groups = a.0.2; having_condition = b.0.0; keys = b.0.1 }, b.1)

-- What was read, where nothing is left.
abbrev pub at_end : List Token → Query → Result Query Stop
at_end [] q = Ok q
at_end (x ∷ ts) q = unexpected_at (x ∷ ts)

-- A query that all of the tokens are.
unfoldable pub whole_at : Limits → List Token → Result Query Stop
whole_at limits ts = query_at limits ts >>= λ x. at_end x.1 x.0
