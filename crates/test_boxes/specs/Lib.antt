-- What the tests say of a log.
pub mod Views
