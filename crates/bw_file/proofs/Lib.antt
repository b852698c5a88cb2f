pub mod FoundSoFar
pub mod Asking
pub mod Crossing
pub mod Paid
pub mod Cut
pub mod Standing
pub mod Waiting
pub mod Pieces
