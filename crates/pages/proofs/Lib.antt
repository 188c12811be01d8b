pub mod Layouts
pub mod Limits
pub mod Passing
pub mod Rounds
pub mod Sound
pub mod Worked
