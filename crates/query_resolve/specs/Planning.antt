-- The set functions of a query and their filters, apart from where they lie in memory.
use Rattle.std.specs.Prelude.{List, map}
use Rattle.std.specs.Borrow.{Bor}
use Rattle.std.specs.Option.{option_map}
use Rattle.query_ast.specs.declared.expression.Predicate.{Predicate}
use Rattle.semantics.specs.Syntax as syntax
use Rattle.query_ast.specs.Syntax.{predicate_form}
use Rattle.query_resolve.specs.declared.plan.Planned.{Planned}
use Rattle.semantics.specs.Names.{PlannedFunction}

-- Filters behind references.
abbrev pub filter_forms : List (Bor Predicate) → List syntax.Predicate
filter_forms filters = map (λ p. predicate_form p.now) filters

-- A set function whose filter is behind a reference.
abbrev pub planned_form : Planned → PlannedFunction
planned_form f = record { function = f.function; filter = option_map (λ p. predicate_form p.now) f.filter }

-- Such functions.
abbrev pub planned_forms : List Planned → List PlannedFunction
planned_forms functions = map planned_form functions
