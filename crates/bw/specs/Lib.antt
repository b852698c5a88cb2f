pub mod Keys
pub mod Walks
