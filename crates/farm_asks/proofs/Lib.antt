pub mod AccessLemmas
pub mod ExpressionLemmas
pub mod FaultLemmas
pub mod WorkLemmas
