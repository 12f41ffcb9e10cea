pub mod Meaning
pub mod Binding
pub mod Inside
