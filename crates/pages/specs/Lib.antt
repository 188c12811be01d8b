pub mod Examples
pub mod Pages
pub mod Passes
pub mod Replies
pub mod Rising
pub mod Shown
pub mod Snapshots
