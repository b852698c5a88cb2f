pub mod WantedKeys
pub mod Stretches
pub mod Written
pub mod Loading
pub mod HandedOn
pub mod Waiting
pub mod AsRead
