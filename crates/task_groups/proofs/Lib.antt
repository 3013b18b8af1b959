pub mod GroupLemmas
pub mod JoinLemmas
pub mod PageLemmas
pub mod PlacedLemmas
