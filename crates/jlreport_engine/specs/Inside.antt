-- What contracts of private calls alone say: no contract of a public call rests on it.
pub mod Joined
pub mod Run
pub mod Written
