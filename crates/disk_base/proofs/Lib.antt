pub mod HistoryLemmas
pub mod WriteLemmas
pub mod TornLemmas
pub mod ImageLemmas
pub mod StopsLemmas
