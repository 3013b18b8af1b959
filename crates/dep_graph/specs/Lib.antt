pub mod Nodes
pub mod Ready
pub mod Kept
pub mod Trees
pub mod Tables
