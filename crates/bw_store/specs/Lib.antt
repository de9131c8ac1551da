pub mod Stores
pub mod Calls
pub mod StoreSteps
pub mod Fuses
pub mod Memory
pub mod MemoryNames
