pub mod Batches
pub mod Changes
pub mod Laws
pub mod Listing
pub mod Lives
pub mod Names
pub mod Standing
pub mod Walks
