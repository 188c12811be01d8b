pub mod Fields
pub mod Visits
pub mod Gathers
pub mod Scans
pub mod Taken
