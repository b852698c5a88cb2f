pub mod Joined
pub mod Fronts
pub mod Adding
pub mod Books
pub mod Sends
pub mod Crossing
