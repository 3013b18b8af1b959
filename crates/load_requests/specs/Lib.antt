pub mod Generator
pub mod Requests
pub mod Still
