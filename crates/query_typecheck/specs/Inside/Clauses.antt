-- The first fault of some clauses of a query, as private calls test them.
use Rattle.std.specs.Prelude.{ℕ, Option, List, map, length}
use Rattle.std.specs.List.{flat_map}
use Rattle.std.specs.Option.{option_or}
use Rattle.semantics.specs.Columns.{Field}
use Rattle.semantics.specs.Syntax.{Predicate, GroupingElement, SelectItem, SortKey, Query}
use Rattle.semantics.specs.Canonical.{header_text}
use Rattle.semantics.specs.declared.query_fault.QueryFault.{QueryFault}
use Rattle.query_typecheck.specs.declared.scope.Clause.{Clause}
use Rattle.query_typecheck.specs.declared.scope.Clause.TheVariants as clause
use Rattle.semantics.specs.Names.{group_names}
use Rattle.semantics.specs.Sets.{expansion}
use Rattle.semantics.specs.SetFunctions.{functions_of}
use Rattle.semantics.specs.Types.{key_expression}
use Rattle.query_typecheck.specs.FirstFaults.{clause_fault, column_fault, expression_fault, first_fault, headers_fault, limit_fault}
use Rattle.semantics.specs.Limits.{most_grouping_sets, most_set_functions}

-- WHERE, then the names in GROUP BY, then the number of its expanded sets.
unfoldable pub records_fault : List Field → List ℕ → Option Predicate → List GroupingElement → Option QueryFault
records_fault fields grouped where_condition groups =
    option_or (clause_fault fields grouped clause.Where where_condition)
    (option_or (first_fault (column_fault fields) (flat_map group_names groups))
    (limit_fault most_grouping_sets (length (expansion groups))))

-- The items of SELECT, then their headers.
unfoldable pub select_fault : List Field → List ℕ → List SelectItem → Option QueryFault
select_fault fields grouped items =
    option_or (first_fault (λ i. expression_fault fields grouped clause.Select i.expression) items)
    (headers_fault (map header_text items))

-- The keys of a clause, each as the expression that it stands for.
abbrev pub keys_fault : List Field → List ℕ → Clause → List SelectItem → List SortKey → Option QueryFault
keys_fault fields grouped c items keys = first_fault (λ k. expression_fault fields grouped c (key_expression items k.expression)) keys

-- SELECT, then HAVING, then ORDER BY.
unfoldable pub rows_fault : List Field → List ℕ → List SelectItem → Option Predicate → List SortKey → Option QueryFault
rows_fault fields grouped items having_condition keys =
    option_or (select_fault fields grouped items)
    (option_or (clause_fault fields grouped clause.Having having_condition)
    (keys_fault fields grouped clause.OrderBy items keys))

-- WHERE and GROUP BY, then SELECT, HAVING and ORDER BY, then the number of different set functions.
unfoldable pub clauses_fault : List Field → List ℕ → Query → Option QueryFault
clauses_fault fields grouped t =
    option_or (records_fault fields grouped t.where_condition t.groups)
    (option_or (rows_fault fields grouped t.items t.having_condition t.keys)
    (limit_fault most_set_functions (length (functions_of fields t))))
