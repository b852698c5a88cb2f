-- what callers see, in reading order
pub mod Lawful
pub mod Reading
pub mod Paging
