mod Counting
mod Admitting
mod Growing
mod Noticing
mod Rounds
mod Quanta
pub mod Withholding
mod Through
mod CountedBatches
pub mod Guarding
mod GuardedCalls
mod Running
mod Silence
mod Resting
pub mod HeldRuns
pub mod RunSteps
pub mod AnsweredRuns
pub mod WrappedRuns
pub mod WrappedLooks
pub mod Passing
pub mod Runs
pub mod Giving
pub mod Heads
pub mod FirstFrames
pub mod Ends
pub mod Leaving
pub mod Connecting
