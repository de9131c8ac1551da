pub mod ProgramLemmas
mod ConversionLemmas
mod FolderLemmas
mod InspectionLemmas
mod RequestLemmas
mod LeftOutLemmas
mod ReceiptLemmas
mod ServingLemmas
mod SeveralLemmas
mod SeveralWorlds
