pub mod Contents
pub mod Calls
pub mod History
pub mod HistoryLaws
pub mod Memory
pub mod Steps
pub mod Untold
