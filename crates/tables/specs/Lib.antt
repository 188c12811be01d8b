pub mod Entries
pub mod Faults
pub mod Views
pub mod Laws
