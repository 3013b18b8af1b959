pub mod CausesLemmas
