pub mod Exampled
pub mod OnePage
pub mod FilledExample
pub mod SplitExample
pub mod Vectors
pub mod SmallBox
pub mod WorkedBoxes
