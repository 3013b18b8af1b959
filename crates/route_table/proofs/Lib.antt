pub mod TakeLemmas
pub mod SeekLemmas
pub mod FormLemmas
pub mod TableLemmas
pub mod MeetLemmas
pub mod PickLemmas
pub mod MaskLemmas
pub mod RouteLemmas
