pub mod Cuts
pub mod Tallies
pub mod Pooled
pub mod Gathered
