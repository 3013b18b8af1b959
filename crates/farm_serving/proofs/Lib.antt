pub mod ConnectionLemmas
pub mod TallyLemmas
pub mod ServingLemmas
