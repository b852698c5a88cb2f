pub mod WritingLaws
pub mod CallLaws
