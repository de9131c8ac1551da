pub use Rattle.bw_model.specs.Requests
pub use Rattle.bw_model.specs.VerdictMeanings
pub mod Kept
pub mod States
