-- What contracts of private calls alone say: no contract of a public call rests on it.
pub mod LineValues
pub mod Reading
pub mod Known
