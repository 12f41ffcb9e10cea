pub mod Codes
pub mod SortKeys
pub mod Laws
pub mod Decoding
pub mod Inside
