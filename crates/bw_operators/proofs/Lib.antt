pub mod ConnectedLemmas
pub mod PlacedLemmas
pub mod SilentLemmas
pub mod Calendar
mod NetworkLemmas
mod AllowFileLemmas
pub mod LogShapes
