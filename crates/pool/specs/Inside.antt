-- What contracts of private calls alone say: no contract of a public call rests on it.
pub mod Assembly
pub mod Done
pub mod Fanned
pub mod Hands
pub mod Views
pub mod Looks
pub mod Reduction
pub mod Outcomes
pub mod Combination
pub mod Steps
