pub mod Numerals
pub mod Decimals
pub mod Escapes
pub mod Spellings
pub mod Same
pub mod Rows
mod Cut
mod Examples
pub mod Keys
pub mod Loop
pub mod Facts
pub mod Last
pub mod ReadAs
pub mod Again
pub mod Read
