-- What contracts of private calls alone say: no contract of a public call rests on it.
pub mod Between
pub mod Fields
pub mod Parts
pub mod Text
pub mod Lengths
