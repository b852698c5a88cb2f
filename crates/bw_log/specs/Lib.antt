-- What callers see, in the order in which to read it.
pub mod Places
pub mod Starts
pub mod Segments
pub mod Contents
pub mod Appends
pub mod Limits
pub mod Reads
pub mod Oldest
pub mod Spans
pub mod Adopting
pub mod Views
pub mod Laws
-- What private functions say.
pub mod Starting
pub mod Walking
pub mod BlockBytes
pub mod Lent
pub mod PageTable
pub mod Appending
