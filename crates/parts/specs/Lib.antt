pub mod Faults
pub mod Shown
pub mod ReadingParts
pub mod Joining
pub mod Inside
