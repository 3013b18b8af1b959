pub mod House
pub mod MemoryHouse
