-- The definitions, computed on an example that no query in words shows.
use Rattle.std.proofs.Common.{◌≡◌, ◌∷◌, ◌++◌, [], refl, codes, Some, None, false}
use Rattle.std.specs.Prelude.{pos}
use Rattle.std.specs.Fmt.{digits}
use Rattle.semantics.specs.Words.{reserved_word}
use Rattle.semantics.specs.declared.aggregate.Aggregate.TheVariants as aggregate
use Rattle.semantics.specs.declared.literal.Literal.TheVariants as constant
use Rattle.semantics.specs.Syntax.{over_filtered, between, expression, name, literal}
use Rattle.semantics.specs.Canonical.{canonical_text, function_text}

-- the sum over the records that a filter keeps
filtered : function_text (over_filtered (aggregate.Sum (codes "q")) (between (expression (name (codes "q"))) false (literal (constant.Integer (pos 1))) (expression (name (codes "from")))))
    ≡ codes "SUM(q) FILTER (WHERE q BETWEEN 1 AND " ++ 34 ∷ codes "from" ++ 34 ∷ codes ")"
unfolding reserved_word digits
filtered = refl

-- a query of one item, whose alias has quotes in it
quoted_alias : canonical_text record { items = record { expression = name (codes "d"); alias = Some (codes "say " ++ 34 ∷ codes "s" ++ 34 ∷ []) } ∷ []; where_condition = None; distinct_sets = false; groups = []; having_condition = None; keys = [] }
    ≡ codes "SELECT d AS " ++ 34 ∷ codes "say " ++ 34 ∷ 34 ∷ codes "s" ++ 34 ∷ 34 ∷ 34 ∷ codes " FROM lines"
unfolding reserved_word
quoted_alias = refl
