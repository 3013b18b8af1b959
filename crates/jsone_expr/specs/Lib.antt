pub mod Functions
pub mod Tokens
pub mod Trees
pub mod Grammar
pub mod Postfix
pub mod Moves
pub mod Texts
pub mod Depths
