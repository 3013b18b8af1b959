pub mod ExpansionLemmas
pub mod InputLemmas
mod NoteLemmas
mod RenderingLemmas
