pub mod Contexts
pub mod Defaults
pub mod Firing
