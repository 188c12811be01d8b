pub mod Walk
pub mod Walks
pub mod Finish
pub mod Recover
