mod Examples
pub mod FitLemmas
pub mod PartByPart
mod GroupExamples
