pub mod Crew
pub mod Serves
