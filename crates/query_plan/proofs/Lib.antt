mod FunctionCodes
mod TruthCodes
mod Filtering
pub mod Sharing
