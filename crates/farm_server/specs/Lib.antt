pub mod Served
pub mod Turn
