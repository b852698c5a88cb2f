-- what callers see, in reading order
pub mod Changed
pub mod Seek
pub mod SplitRule
pub mod Above
pub mod Forwards
pub mod Links
pub mod Words
pub mod Hollow
pub mod HollowPages
-- what private functions say, and how values stand in memory
pub mod Linked
pub mod Marks
pub mod Drafting
