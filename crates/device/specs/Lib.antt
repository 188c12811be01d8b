pub mod Reads
pub mod Refusals
pub mod Writes
pub mod Meaning
