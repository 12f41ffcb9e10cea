mod Examples
mod Fronts
pub mod Lexemes
mod Literals
mod Marks
pub mod Meaning
mod Nested
mod NoNames
mod NumberExamples
mod Parts
mod PartsAt
mod Passed
pub mod Punctuation
mod Signs
mod WholeNumbers
mod WordEnds
