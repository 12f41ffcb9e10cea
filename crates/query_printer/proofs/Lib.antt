pub mod Pushes
mod Examples
