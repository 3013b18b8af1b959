pub mod Members
pub mod Pages
pub mod Faults
pub mod Placed
pub mod Kept
