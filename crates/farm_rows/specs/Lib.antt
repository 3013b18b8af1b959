pub mod Waits
pub mod Summary
pub mod Starts
pub mod Deeds
