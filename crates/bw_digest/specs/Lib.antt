pub mod Lanes
pub mod Messages
