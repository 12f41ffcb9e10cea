pub mod Examples
pub mod Truths
mod Parts
pub mod Safety
mod Forms
mod FilterConditions
