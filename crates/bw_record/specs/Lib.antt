-- what callers see, in reading order
pub mod Version
pub mod Keys
pub mod Record
pub mod Lawful
pub mod Touch
pub mod Heads
-- what private functions say
pub mod Paired
pub mod Packed
pub mod Listed
