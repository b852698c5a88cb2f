pub mod Spelling
pub mod Meaning
pub mod Law
pub mod Steps
pub mod Laws
pub mod Batches
pub mod Order
pub mod Worked
