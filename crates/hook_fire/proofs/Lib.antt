pub mod ContextLemmas
pub mod DefaultLemmas
pub mod FiringLemmas
pub mod LateLemmas
pub mod SomeFault
pub mod SomeDefinition
pub mod SomeFiring
