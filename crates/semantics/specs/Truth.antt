-- Three-valued logic: the truth tables of AND, OR and NOT (ISO/IEC 9075-2, <search condition>).
use Rattle.semantics.specs.declared.truth.Truth.{Truth}
use Rattle.semantics.specs.declared.truth.Truth.TheVariants.{True, Unknown, False}

-- AND.
abbrev pub conjunction : Truth → Truth → Truth
conjunction True t = t
conjunction False t = False
conjunction Unknown True = Unknown
conjunction Unknown Unknown = Unknown
conjunction Unknown False = False

-- OR.
abbrev pub disjunction : Truth → Truth → Truth
disjunction True t = True
disjunction False t = t
disjunction Unknown True = True
disjunction Unknown Unknown = Unknown
disjunction Unknown False = Unknown

-- NOT.
abbrev pub negation : Truth → Truth
negation True = False
negation Unknown = Unknown
negation False = True
