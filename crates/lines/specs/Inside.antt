-- What contracts of private calls alone say: no contract of a public call rests on it.
pub mod Holding
pub mod Members
pub mod Input
pub mod Naming
