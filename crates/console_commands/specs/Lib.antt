pub mod Expanding
pub mod Inputs
pub mod Notes
pub mod Rendering
pub mod Signing
pub mod Status
pub mod Writing
