pub mod Standing
pub mod Views
pub mod Rule
