mod Going
pub mod Standing
mod Serving
mod Digesting
mod Hearing
pub mod Resting
