pub mod Certificate
pub mod Choices
pub mod Planned
pub mod Rows
