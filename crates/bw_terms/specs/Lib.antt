-- What callers see, in the order in which to read it.
pub mod Ranges
pub mod Told
