pub mod Numbers
pub mod Connections
pub mod Tally
pub mod Serving
