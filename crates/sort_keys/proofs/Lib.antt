pub mod Told
pub mod Bytes
pub mod Values
pub mod Totals
mod Digits
mod Loops
mod Texts
mod Examples
pub mod Decoding
mod Lengths
mod Ends
