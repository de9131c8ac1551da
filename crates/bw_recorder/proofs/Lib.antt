pub mod OpeningSteps
pub mod HeaderSteps
pub mod PutSteps
pub mod Lists
pub mod RequestHex
pub mod PackSteps
pub mod Statuses
pub mod Joins
