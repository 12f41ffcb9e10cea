pub mod Laws
pub mod Functions
pub mod Planning
pub mod Resolution
pub mod Shown
pub mod Collecting
pub mod Inside
