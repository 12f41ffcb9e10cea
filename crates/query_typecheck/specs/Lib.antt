pub mod Typing
pub mod Filters
pub mod Standing
pub mod FirstFaults
pub mod Inside
