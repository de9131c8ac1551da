pub mod Pieces
pub mod DrawingLaws
mod TextLemmas
pub mod FittingLaws
pub mod Recorded
pub mod Pictured
