-- what callers see, in reading order
pub mod Spans
pub mod Styles
pub mod Stretches
pub mod Listed
pub mod Asked
pub mod Loading
pub mod Handed
pub mod Keyed
pub mod Held
pub mod Filled
