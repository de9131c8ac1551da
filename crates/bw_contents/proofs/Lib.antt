pub mod Parts
pub mod Masks
pub mod Gathered
pub mod Readings
pub mod Scans
pub mod Trims
pub mod Utf8Text
pub mod ExamplesOfIxml
