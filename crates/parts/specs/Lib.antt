pub mod Directions
pub mod Gaps
pub mod Lifting
pub mod Moves
pub mod Regions
pub mod Rows
pub mod Words
pub mod Written
