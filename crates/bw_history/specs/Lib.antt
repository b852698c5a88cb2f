-- What callers see, in reading order.
pub mod Entries
pub mod History
pub mod Cuts
pub mod Machine
pub mod Lives
pub mod Laws
pub mod Remembered
pub mod Lanes
pub mod Entering
pub mod Beside
-- How values stand in memory.
pub mod Packed
pub mod Remembering
