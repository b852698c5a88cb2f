-- What callers see, in the order in which to read it.
pub mod Holding
pub mod Boxes
pub mod Leases
pub mod Slots
pub mod Memory
pub mod Fuse
pub mod Dead
