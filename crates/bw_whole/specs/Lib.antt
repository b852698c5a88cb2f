-- what callers see, in reading order
pub mod Framing
pub mod Paging
pub mod Listing
pub mod Written
-- what private functions say
pub mod Inner
pub mod Held
