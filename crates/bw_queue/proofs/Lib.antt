pub mod NamingLemmas
pub mod NamedLemmas
pub mod ListingLemmas
pub mod PlanningLemmas
pub mod OpeningLemmas
