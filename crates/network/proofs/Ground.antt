-- Ground: case splits, node and channel numbers as plain ones, sums and counts, and tests read as statements.
pub mod Splits
pub mod Numbers
pub mod Counting
pub mod Without
pub mod Tests
pub mod Joined
