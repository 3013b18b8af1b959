mod CommandLemmas
mod FaultLemmas
mod FlagLemmas
mod FormLemmas
mod LawLemmas
mod LoadLemmas
mod MatchLemmas
mod OptionLemmas
mod RangeLemmas
mod ReadingLemmas
mod RenderLemmas
mod ServeFormLemmas
mod ServeOptionLemmas
mod ServeWalkLemmas
mod ServiceLemmas
mod SigningLemmas
mod ValueLemmas
pub mod DiskFormLemmas
