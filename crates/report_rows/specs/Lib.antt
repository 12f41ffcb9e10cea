pub mod Shown
pub mod Laws
pub mod Planned
pub mod Sources
pub mod Parts
pub mod Inside
