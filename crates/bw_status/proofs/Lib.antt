pub mod SnapshotShapes
pub mod Appended
