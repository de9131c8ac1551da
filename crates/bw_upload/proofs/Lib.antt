mod ChainSteps
mod TurnSteps
mod FillSteps
mod Lifting
mod FeedSteps
mod FinalSteps
mod VisitSteps
mod LinkSteps
pub mod OfferSteps
pub mod RefusedLines
pub mod RequestLemmas
pub mod RoundSteps
pub mod ReportedLinks
pub mod InOrder
pub mod Printed
