-- What contracts of private calls alone say: no contract of a public call rests on it.
pub mod Sets
pub mod Refusals
pub mod Notes
pub mod Properties
pub mod Folding
pub mod Shapes
pub mod SetTables
