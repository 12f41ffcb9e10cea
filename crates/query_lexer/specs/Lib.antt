pub mod Options
pub mod Steps
pub mod Words
pub mod Inside
