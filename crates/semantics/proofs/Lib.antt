mod Decided
mod examples
