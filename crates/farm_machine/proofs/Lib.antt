pub mod ChangeLemmas
pub mod FiredLemmas
pub mod FiringLemmas
pub mod OrderLemmas
pub mod PageLemmas
pub mod PlanLemmas
pub mod VerdictLemmas
pub mod MakeLemmas
pub mod MayLemmas
pub mod JoinLemmas
mod EqualLemmas
pub mod BehindLemmas
pub mod ReplayLemmas
pub mod WrittenLemmas
pub mod CrossingLemmas
