pub mod InspectionLemmas
pub mod CallLemmas
pub mod QuietLemmas
pub mod ReplayLemmas
pub mod TextLemmas
pub mod EventLemmas
pub mod WorldLemmas
pub mod Staging
mod Playing
mod Schedules
pub mod FaultLaws
pub mod EventWords
