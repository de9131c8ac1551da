pub mod TakeSamples
pub mod SampleDigests
pub mod BlockDigests
pub mod GivenUp
pub mod Receipts
pub mod ReceiptFiles
pub mod Spellings
