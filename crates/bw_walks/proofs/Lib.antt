pub mod Backwards
pub mod BackSeen
