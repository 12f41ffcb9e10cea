pub mod Flags
pub mod Numbers
pub mod Published
pub mod Required
pub mod Samples
