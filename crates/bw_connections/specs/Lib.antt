pub mod ConnectionFeeds
pub mod Lives
pub mod ConnectionTables
pub mod Places
pub mod Quanta
pub mod ConnectionBytes
pub mod HeldBodies
pub mod HeldFrames
