pub mod QueueNameLemmas
pub mod CrossingLemmas
