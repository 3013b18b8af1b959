pub mod Rules
pub mod Histories
pub mod Asks
