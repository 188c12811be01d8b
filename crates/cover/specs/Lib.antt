pub mod Entries
pub mod Made
pub mod Meaning
pub mod Shown
