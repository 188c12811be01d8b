mod Entries
mod Shown
