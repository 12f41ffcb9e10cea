-- What contracts of private calls alone say: no contract of a public call rests on it.
pub mod Values
pub mod ValueSets
pub mod Accumulator
pub mod Group
pub mod Keys
pub mod Table
pub mod Shards
pub mod Pairs
pub mod Walks
pub mod Summaries
pub mod GroupsOfShards
pub mod Entries
pub mod Keyed
