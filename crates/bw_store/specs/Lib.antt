-- What callers see, in the order in which to read it.
pub mod Kept
pub mod Views
pub mod Opened
pub mod Handing
pub mod Following
pub mod Reading
pub mod Going
pub mod Looking
pub mod Showing
pub mod Renewing
pub mod Machine
pub mod Goal
