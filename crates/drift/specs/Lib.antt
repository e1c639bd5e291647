pub mod DriftLaws
pub mod Drifts
