pub mod LineCuts
pub mod TextLines
pub mod CountLines
pub mod CutStates
pub mod HeaderWords
mod Drawing
