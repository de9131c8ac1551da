mod Utf8Texts
pub mod JsonShapes
pub mod LookLemmas
pub mod Hashed
pub mod EntryLemmas
pub mod ReceiptLemmas
pub mod SampleLemmas
pub mod StoredLemmas
