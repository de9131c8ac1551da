mod EndSteps
mod FeedSteps
pub mod SentSo
pub mod Reported
pub mod MoreRead
pub mod HeldLaws
pub mod SampleSteps
pub mod FollowedFeeds
pub mod PcmPlans
pub mod PcmFeedSteps
pub mod OpenedSamples
pub mod GrowingSteps
mod KnownLengths
mod MarkedPlans
mod MarkedSteps
mod MarkedWaits
mod ReadSteps
mod ResumedFeeds
mod RestSteps
mod AskSteps
mod SkipSteps
mod StateSteps
mod ReportSteps
mod BeginSteps
mod KeeperSteps
