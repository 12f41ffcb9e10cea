pub mod Examples
mod Unique
mod Places
mod Refusals
-- What a query is that some text has, and the tokens of its canonical text.
mod Good
mod Onto
mod Props
-- The canonical text spells these tokens.
mod Spelled
mod Goes
mod GoesExpressions
mod GoesPredicates
mod GoesGroups
mod GoesQuery
-- These tokens derive the query.
mod DerivePredicates
mod DeriveGroups
mod DeriveQuery
-- What a text spells and derives is such a query.
mod Sane
mod GoodPredicates
mod GoodGroups
mod GoodQuery
-- The whole.
mod Again
