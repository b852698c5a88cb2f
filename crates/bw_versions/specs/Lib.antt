-- what callers see, in reading order

pub mod Batches
pub mod Posted
pub mod Laws
pub mod Reach
pub mod Heard
pub mod Refusals
pub mod Publishing
pub mod Versioned
-- the rule of the versions, and of the book

pub mod VersionData
pub mod Keeping
pub mod BookRule
-- how values stand in memory

pub mod Posting
pub mod Sending
pub mod Holds
