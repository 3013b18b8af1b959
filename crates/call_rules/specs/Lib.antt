pub mod HookNames
pub mod Policy
pub mod Texts
