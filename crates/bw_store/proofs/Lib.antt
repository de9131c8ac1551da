pub mod Names
pub mod Asked
pub mod Bytes
pub mod Torn
pub mod Tears
