-- What the tests say of a store and its feeds.
pub mod Views
