pub mod Calendar
pub mod Statuses
pub mod Tokens
pub mod Parts
