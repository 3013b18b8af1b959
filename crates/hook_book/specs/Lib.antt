pub mod Codes
pub mod Hooks
pub mod Places
