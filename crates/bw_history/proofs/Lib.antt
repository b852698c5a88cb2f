pub mod Grouped
pub mod Laned
pub mod Lives
pub mod Machines
