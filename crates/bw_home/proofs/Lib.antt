pub mod Readings
pub mod Maps
pub mod Cuts
pub mod Keeping
pub mod Beginning
mod Reasons
