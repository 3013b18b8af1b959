pub mod Scopes
pub mod Expressions
pub mod Walks
