pub mod ManyLives
pub mod SecondLife
