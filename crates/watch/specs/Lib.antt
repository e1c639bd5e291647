pub mod Dials
pub mod Piles
pub mod WatchLaws
pub mod Watched
pub mod Watches
