-- what callers see, in reading order
pub mod Words
pub mod Lines
pub mod Inputs
pub mod Longs
pub mod Dumps
pub mod Csv
pub mod Json
pub mod Headers
pub mod Faults
pub mod Records
pub mod Readings
pub mod Laws
