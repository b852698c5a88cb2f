-- What the tests append and find.
pub mod OnePage
pub mod Examples
