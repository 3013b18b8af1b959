pub mod Reasons
pub mod Runs
pub mod Rows
pub mod Moves
pub mod Later
pub mod Serving
