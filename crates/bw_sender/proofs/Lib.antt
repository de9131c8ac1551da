pub mod EntryLaws
pub mod SenderLaws
pub mod Offering
pub mod Resumed
mod ReplyRuns
pub mod Beginnings
mod Batching
mod HeardReplies
pub mod HeardSenders
mod HeardPieces
mod SayingSteps
mod ListeningSteps
