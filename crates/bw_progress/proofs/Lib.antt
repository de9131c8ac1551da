pub mod CountedFrames
pub mod Pieces
pub mod Measured
