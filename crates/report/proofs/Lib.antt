pub mod Written
mod Examples
mod OnGroups
mod Room
