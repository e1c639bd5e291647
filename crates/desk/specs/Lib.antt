pub mod Drills
pub mod Failures
pub mod Listings
pub mod Made
pub mod PlannedSites
pub mod ReadFloors
pub mod Verdicts
