-- What contracts of private calls alone say: no contract of a public call rests on it.
pub mod NumberParts
pub mod Contents
pub mod Signs
