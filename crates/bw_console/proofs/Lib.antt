pub mod LineLemmas
pub mod SaidLines
pub mod InputLemmas
pub mod PrintLemmas
pub mod OpeningLemmas
pub mod OutcomeLemmas
