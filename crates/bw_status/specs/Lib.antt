pub mod Words
pub mod Texts
pub mod Answers
pub mod Rows
pub mod Pages
pub mod Metrics
pub mod Objects
pub mod Responses
