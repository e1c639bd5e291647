pub mod Examples
pub mod Shown
