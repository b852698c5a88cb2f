pub mod SideBySide
pub mod Order
pub mod HeadRows
