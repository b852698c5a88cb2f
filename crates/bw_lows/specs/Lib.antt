-- what callers see

pub mod LowHeads
-- what private functions say, and how values stand in memory

pub mod Rows
pub mod LowRow
pub mod Packing
pub mod Beside
pub mod Flat
