pub mod CompleteLemmas
pub mod FarmFileLemmas
pub mod FaultLemmas
pub mod HeardLemmas
mod HomeLemmas
pub mod LentLemmas
pub mod ReasonLemmas
pub mod RunLemmas
pub mod RunsLemmas
