-- What callers see, in the order in which to read it.
pub mod Digest
pub mod Sums
pub mod Rows
pub mod Checked
pub mod Laws
