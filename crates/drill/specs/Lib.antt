pub mod Problems
pub mod Script
