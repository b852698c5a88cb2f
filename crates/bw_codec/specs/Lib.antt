-- what callers see, in reading order
pub mod Bytes
pub mod Checking
pub mod Lent
pub mod Grammar
pub mod Outline
pub mod Writing
pub mod Sizes
pub mod Laws
-- what private functions say; of `Reading` callers see what a fault says of bytes
pub mod Reading
pub mod Skipping
