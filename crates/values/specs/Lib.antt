pub mod Datum
pub mod Comparison
pub mod Schema
pub mod Results
pub mod GroupStates
