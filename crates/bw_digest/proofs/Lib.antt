pub mod LaneLemmas
pub mod MessageLemmas
