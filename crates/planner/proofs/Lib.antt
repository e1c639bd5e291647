pub mod Acceptance
pub mod Agreed
pub mod Certified
pub mod Filled
pub mod Fills
pub mod Progress
pub mod Written
