pub mod Planned
pub mod Coding
