pub mod CalendarLemmas
pub mod DefinitionLemmas
pub mod WritingLemmas
mod MemberLemmas
