-- what callers see, and how blocks stand where their bytes lie
pub mod Lent
