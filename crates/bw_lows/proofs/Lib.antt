pub mod Shorts
pub mod Ascending
pub mod Flattened
pub mod HeadBounds
pub mod FirstHeads
pub mod HeadCounts
pub mod PagesBeside
pub mod Changed
