pub mod Placing
pub mod Begins
pub mod Filed
pub mod PlanMade
pub mod Joins
pub mod OverlaySteps
pub mod OverlayLists
pub mod RowsMore
