pub mod Doors
pub mod Memory
