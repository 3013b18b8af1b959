pub mod PolicyLemmas
pub mod PriorityLemmas
