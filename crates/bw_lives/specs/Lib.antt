pub mod Lives
pub mod Many
