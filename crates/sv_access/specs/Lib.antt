pub mod Access
pub mod Control
pub mod State
pub mod Table
pub mod Story
pub mod Law
pub mod Cases
pub mod WorkedStory
