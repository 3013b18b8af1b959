pub mod LogsLemmas
pub mod DocLemmas
mod SameLemmas
pub mod ToldLemmas
pub mod MomentLemmas
pub mod SlugLemmas
mod PointerLemmas
mod ReadingLemmas
mod DateTimeLemmas
pub mod OneMomentLemmas
mod DataLemmas
