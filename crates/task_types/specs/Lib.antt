pub mod Forms
pub mod Choices
pub mod Maps
pub mod Codes
