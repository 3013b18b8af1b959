pub mod Segments
pub mod Routes
pub mod Fits
pub mod Texts
pub mod Tokens
pub mod Contents
