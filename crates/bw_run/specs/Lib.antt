-- What an owner, and the block, own.
pub mod Token
pub mod Ownership
