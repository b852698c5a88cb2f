-- what is lent of a block, how it is cut, and that it may cross threads
pub mod Shares
pub mod Blocks
pub mod Crosses
-- the steps on the count
pub mod Counts
-- what the walks share: machine values, an owner's word, the length through a `&`, and calls of `Global`
pub mod Values
pub mod Handles
pub mod Lengths
pub mod Heap
