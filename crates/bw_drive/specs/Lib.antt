-- What callers see, in the order in which to read it.
pub mod Written
pub mod Ran
pub mod Settling
-- What private functions say.
pub mod Pending
pub mod Pace
