pub mod Entries
pub mod Judges
pub mod Round
pub mod Windows
pub mod Words
pub mod Spans
