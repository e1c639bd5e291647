mod Drifting
mod Examples
mod Small
mod Splits
