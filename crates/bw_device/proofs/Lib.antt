pub mod Desks
pub mod Boxed
