pub mod SampleLemmas
pub mod BodyLemmas
pub mod GiveUpLemmas
pub mod DigestLemmas
pub mod ReceiptFileLemmas
pub mod LineLemmas
pub mod ReceiptShapes
