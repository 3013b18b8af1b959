pub mod CrewLemmas
pub mod ServesLemmas
