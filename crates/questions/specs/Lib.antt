-- What the questions find in the arrays, and how many tasks of a node wait.
pub mod Asked
pub mod Tasks
