pub mod Fills
pub mod Moves
pub mod Steps
pub mod Ranks
pub mod Halves
pub mod Puts
pub mod Layouts
pub mod Keys
