pub mod Raw
pub mod Spots
pub mod Told
