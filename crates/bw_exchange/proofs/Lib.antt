mod Staying
mod Holding
pub mod Doing
pub mod Going
mod Turning
mod Growing
pub mod Lawful
pub mod Reading
mod Feeds
mod Writing
pub mod Whole
mod Ending
pub mod GoodRuns
pub mod LinkStatsLemmas
mod Batches
