-- what callers see, in reading order

pub mod Leaves
pub mod Shown
pub mod Batch
pub mod Standing
pub mod Lows
pub mod Ahead
pub mod Laws
-- what private functions say, and how values stand in memory

pub mod Gap
pub mod Index
pub mod Beginning
pub mod Seats
pub mod Seating
pub mod Aim
pub mod Splitting
pub mod Displaced
pub mod Keeping
pub mod Journal
