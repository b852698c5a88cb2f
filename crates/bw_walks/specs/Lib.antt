-- What callers see.
pub mod Back
pub mod Shared
