pub mod Sameness
pub mod Places
pub mod Totals
pub mod Rows
pub mod RowCodes
mod Placed
pub mod Maps
pub mod Wide
pub mod Filtering
pub mod RowValues
mod RowScope
pub mod Keeping
mod Arranged
pub mod Sources
mod CodedKeys
pub mod InParts
mod Sharing
