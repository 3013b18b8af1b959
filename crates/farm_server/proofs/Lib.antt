pub mod LeftLemmas
pub mod OneMoreLemmas
pub mod ServesLemmas
pub mod WriteLemmas
