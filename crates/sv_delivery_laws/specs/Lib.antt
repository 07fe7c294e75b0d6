pub mod Sent
pub mod Turns
pub mod Stretch
pub mod DeliveryLaws
pub mod Worked
