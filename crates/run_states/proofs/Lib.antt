pub mod LaterLemmas
pub mod RunLemmas
pub mod NameLemmas
pub mod ClaimLemmas
pub mod ServeLemmas
pub mod CrossingLemmas
