-- What callers see, in reading order.
pub mod Share
pub mod Begun
pub mod Adding
pub mod Planning
pub mod Filing
pub mod Overlay
pub mod Drafting
