pub mod HistoriesLemmas
pub mod AsksLemmas
