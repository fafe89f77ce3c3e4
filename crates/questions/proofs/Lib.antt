-- The laws of the two questions.
pub mod Standing
pub mod Waiting
