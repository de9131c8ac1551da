mod MarkLineCuts
mod KeptSteps
mod SeenSteps
pub mod SearchSteps
mod BegunLines
