pub mod Walking
pub mod Answering
pub mod ReadBack
pub mod Written
pub mod Found
