pub mod SatisfyingLemmas
pub mod OrderLemmas
pub mod ExpressionLemmas
pub mod LawLemmas
pub mod WalkLemmas
