pub mod Outcomes
pub mod Scopes
pub mod Operators
pub mod Calls
pub mod Values
pub mod Machine
pub mod Ends
