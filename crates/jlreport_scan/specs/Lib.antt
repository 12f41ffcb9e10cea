pub mod Faults
pub mod RunFaults
pub mod Gathered
pub mod Inside
