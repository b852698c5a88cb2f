-- what callers see, in reading order
pub mod Joining
pub mod Filling
pub mod Marks
-- what private functions say
pub mod Index
pub mod Counting
pub mod Rows
pub mod Gaps
pub mod Laid
