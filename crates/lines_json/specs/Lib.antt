pub mod Bytes
pub mod Meant
pub mod Standing
pub mod Inside
