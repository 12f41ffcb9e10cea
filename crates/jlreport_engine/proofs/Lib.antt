mod Fronts
mod Sending
pub mod Explained
pub mod JoinLemmas
pub mod Known
pub mod Outcomes
pub mod Served
