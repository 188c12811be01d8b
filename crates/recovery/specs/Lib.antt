pub mod Checks
pub mod Finishing
pub mod Flat
pub mod Folds
pub mod Recovers
pub mod Small
pub mod State
pub mod Tails
