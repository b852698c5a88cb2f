mod Tests
pub mod FoundStand
pub mod LinesTaken
pub mod LinksRead
pub mod PageLines
pub mod PageShape
pub mod PagesAtFault
pub mod PagesRight
pub mod StandingAgain
pub mod LowIndex
pub mod LowsTold
pub mod FramesJoined
pub mod LinesAfter
pub mod OwnPages
