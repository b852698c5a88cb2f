pub mod LentLaws
pub mod FirstRead
pub mod Astray
pub mod PairsCounted
