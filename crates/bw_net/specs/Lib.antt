pub mod Faults
pub mod Hosts
pub mod Meanings
pub mod SeenFiles
pub mod SeenLinks
