pub mod Texts
pub mod LineValues
pub mod Faults
pub mod Groups
pub mod Reading
pub mod Known
pub mod Inside
