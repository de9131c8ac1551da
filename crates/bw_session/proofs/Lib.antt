pub mod Packing
pub mod Slots
pub mod OwnFiles
pub mod WriteForms
pub mod CarryForms
pub mod LogSteps
pub mod PlanForms
pub mod PrefixForms
pub mod NumberForms
pub mod NoteForms
pub mod OrderForms
pub mod OrderSteps
pub mod DrainForms
pub mod NewForms
pub mod AdmitForms
pub mod RunForms
pub mod ReplyForms
pub mod NextForms
pub mod ServeForms
pub mod AnswerForms
pub mod ServerForms
pub mod CountForms
pub mod ReportForms
pub mod ListingForms
pub mod JournalForms
pub mod OrderLaws
pub mod SettledForms
pub mod UseForms
pub mod AskForms
pub mod ServerAnswers
pub mod PromiseForms
pub mod ResumeForms
pub mod OtherForms
pub mod QuietForms
pub mod RoomForms
pub mod ForgetLaws
pub mod InsertLaws
pub mod TableForms
pub mod OutsideForms
mod DoneCounts
mod ServedRuns
mod InputSteps
pub mod GoodExchanges
pub mod StoreRuns
mod FirstFrames
mod ServedInputs
