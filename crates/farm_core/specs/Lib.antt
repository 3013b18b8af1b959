pub mod Bare
pub mod Diskless
pub mod Records
pub mod Opened
pub mod Reading
pub mod Farm
pub mod Asking
